-- What a read record shows, and what it takes to be read.
use mathlib.Core.Path.{◌≡◌, refl, sym, ap, ◌∙◌}
use mathlib.Core.Bool.{Bool, true, false}
use mathlib.Core.List.{List}
use Prim.Native.Nat.{ℕ, ◌+◌, ◌-◌, ◌≤◌, ◌<◌}
use native.Mathlib.Omega.{arith}
use borrow.Author.Tests.{leb-false, ltb-false}
use lib.Dec.{leb, ltb}
use Rattle.std.specs.Prelude.{Option, None, Some}
use lib.ListN.{length, drop}
use Rattle.basis.specs.Choice.{pick}
use Rattle.basis.specs.Numbers.{number_at}
use Rattle.table.specs.Records.{call_of, readings_size, form_of, mark_at}
use Rattle.table.specs.Fields.{decode}
use Rattle.record.specs.Reading.{read_call, read_marked, read_found, read_at}
use Rattle.table.specs.declared.calls.Call.{Call}
use Rattle.table.specs.declared.forms.Mark.{Mark}
use Rattle.record.specs.declared.reading.Read.{Read}
use Rattle.record.specs.declared.reading.Read.TheVariants.{End, Cut, Record}
use Rattle.record.proofs.Reader.{at_two, whole-record}
use Rattle.table.proofs.Table.{lawful}

-- a record of a mark stands at a place, with its readings from one place to another
pub record Shows (s : List ℕ) (at : ℕ) (c : Call) (from next : ℕ) : Type 0 where
  pub mark : Mark
  pub found : mark_at (number_at 2 s at) ≡ Some mark
  pub call : c ≡ call_of mark (decode (form_of mark).widths (drop (at + 2) s))
  pub start : from ≡ at + (form_of mark).size
  pub behind : next ≡ at + (form_of mark).size + readings_size c
  pub there : next ≤ length s

-- what stands at a place is no refusal, so the test that leads to it failed
other : {x y : Read} (t : Bool) (rest : Read) → (x ≡ y → ⊥) → pick t x rest ≡ y → (t ≡ false) × (rest ≡ y)
other true rest h e = absurd (h e)
other false rest h e = (refl, e)

module _ (s : List ℕ) (at : ℕ) (c : Call) (from next : ℕ) where
  not_end : End ≡ Record c from next → ⊥
  not_end e = let z : ◌≡◌ {A = ℕ} 0 1 = cc in omega arith

  not_cut : Cut ≡ Record c from next → ⊥
  not_cut e = let z : ◌≡◌ {A = ℕ} 0 1 = cc in omega arith

  marked_shows : (m : Mark) → at < length s → mark_at (number_at 2 s at) ≡ Some m → read_marked s at m ≡ Record c from next → Shows s at c from next
  unfolding read_marked read_call
  marked_shows m h f e =
      let n : ℕ = (form_of m).size in
      let d : Call = call_of m (decode (form_of m).widths (drop (at + 2) s)) in
      let a = other (ltb (length s - at) n) (read_call s at n d) not_cut e in
      let b = other (ltb (length s - at) (n + readings_size d)) (Record d (at + n) (at + n + readings_size d)) not_cut a.1 in
      let q : d ≡ c = cc b.1 in
      let t : readings_size d ≡ readings_size c = ap readings_size q in
      let g : at + n ≡ from = cc b.1 in
      let k : at + n + readings_size d ≡ next = cc b.1 in
      let w = ltb-false (length s - at) (n + readings_size d) b.0 in
      record { mark = m; found = f; call = sym q; start = sym g; behind = omega arith; there = omega arith }

  found_shows : (f : Option Mark) → at < length s → mark_at (number_at 2 s at) ≡ f → read_found s at f ≡ Record c from next → Shows s at c from next
  found_shows None h f e = let z : ◌≡◌ {A = ℕ} 0 1 = cc in absurd (omega arith)
  found_shows (Some m) h f e = marked_shows m h f e

  -- a read record shows all that
  pub read_shows : read_at s at ≡ Record c from next → Shows s at c from next
  unfolding read_at
  read_shows e =
      let a = other (leb (length s) at) _ not_end e in
      let b = other (ltb (length s - at) 2) _ not_cut a.1 in
      found_shows (mark_at (number_at 2 s at)) (leb-false (length s) at a.0) refl b.1

  -- and what shows it is read
  pub shows_read : Shows s at c from next → read_at s at ≡ Record c from next
  shows_read w =
      let m : Mark = w.mark in
      let z = (lawful m).size in
      sym (at_two s at (Some m) (omega arith) (omega arith) (sym w.found))
      ∙ sym (whole-record s at m (form_of m).size refl c (readings_size c) w.call refl (omega arith) (omega arith))
      ∙ ap (λ n. Record c n (at + (form_of m).size + readings_size c)) (sym w.start)
      ∙ ap (λ n. Record c from n) (sym w.behind)
