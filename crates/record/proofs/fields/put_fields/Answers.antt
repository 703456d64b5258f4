use mathlib.Core.List.{List, [], ◌∷◌}
use mathlib.Core.Logic.{◌⊎◌}
use mathlib.Core.Path.{◌≡◌, refl, sym, ap, ◌∙◌}
use Prim.Native.Nat.{ℕ, ◌+◌, ◌≤◌}
use native.Mathlib.Omega.{arith}
use lib.ListN.{length}
use Rattle.std.proofs.Common.{inl, inr}
use Rattle.std.proofs.lemmas.Slice.Zip.{Zip-more, either_empty_from_Zip}
use Rattle.std.specs.Iterator.Adapters.{zip_first, zip_second}
use Rattle.std.specs.Slice.Iter.{iter_rest}
use Rattle.basis.specs.Numbers.{bytes_of, written}
use Rattle.basis.specs.Sums.{sum}
use Rattle.basis.proofs.Numbers.{written_none, written-append, length-bytes_of}
use Rattle.basis.proofs.Sums.{sum-cons}
use Rattle.table.specs.Fields.{encode}
use Rattle.record.proofs.fields.put_fields.Goals as goal

-- one field written, and then the others
encode_more : (w v : ℕ) (ws vs out : List ℕ) (place : ℕ) → place + w ≤ length out → written (written out place (bytes_of w v)) (place + w) (encode ws vs) ≡ written out place (encode (w ∷ ws) (v ∷ vs))
unfolding encode
encode_more w v ws vs out place h =
    let e : length (bytes_of w v) ≡ w = length-bytes_of w v in
    ap (λ n. written (written out place (bytes_of w v)) (place + n) (encode ws vs)) (sym e)
    ∙ sym (written-append out place (bytes_of w v) (encode ws vs) (omega arith))

encode_none : (ws vs : List ℕ) → (ws ≡ []) ⊎ (vs ≡ []) → encode ws vs ≡ []
unfolding encode
encode_none [] vs e = refl
encode_none (w ∷ ws) [] e = refl
encode_none (w ∷ ws) (v ∷ vs) (inl e) = cc
encode_none (w ∷ ws) (v ∷ vs) (inr e) = cc

pub loop-width-preserved : goal.loop-width-preserved
loop-width-preserved c =
    let l = c.loop-width in
    let s = l.width-iterator in
    let t = c.next.new.self in
    let w : ℕ = c.in-Some.width.now in
    let v : ℕ = c.in-Some.value.now in
    let ws : List ℕ = iter_rest (zip_first t) in
    let vs : List ℕ = iter_rest (zip_second t) in
    let more = Zip-more s t c.next.result (c.in-Some.width, c.in-Some.value) c.in-Some.is c.next.ensures.steps in
    let p : l.place + (w + sum ws) ≡ c.args.at + sum c.args.widths.now = ap (λ n. l.place + n) (sym (ap sum more.0 ∙ sum-cons w ws)) ∙ l.invariant.place in
    record {
      room = omega arith;
      place = omega arith;
      left =
          rw (c.put_number.ensures, c.from.ensures) (encode_more w v ws vs l.out l.place (omega arith))
          ∙ sym (ap (λ x. written l.out l.place (encode x (iter_rest (zip_second s)))) more.0 ∙ ap (λ x. written l.out l.place (encode (w ∷ ws) x)) more.1)
          ∙ l.invariant.left;
    }

pub returns : goal.returns
returns c =
    let l = c.loop-width in
    let s = l.width-iterator in
    let e = encode_none (iter_rest (zip_first s)) (iter_rest (zip_second s)) (either_empty_from_Zip s c.next.new.self c.next.result c.in-None.is c.next.ensures.steps) in
    sym (written_none l.out l.place) ∙ ap (λ (r : List ℕ). written l.out l.place r) (sym e) ∙ l.invariant.left
