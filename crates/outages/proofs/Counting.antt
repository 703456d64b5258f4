-- The minutes of a range counted one by one, and those that lie in the entries of a log.
use Rattle.std.proofs.Common.{◌≡◌, refl, sym, ap, ◌∙◌, Bool, true, false, not, cond, ◌&&◌, ◌||◌, List, [], ◌∷◌, ℕ, zero, suc, ◌+◌, ◌-◌, ◌<◌, min, max, leb, ltb, eqb, length, arith}
use Rattle.std.specs.List.{list_any, list_all, range_with_len, sum_by, count_by}
use Rattle.std.proofs.lemmas.Bool.{and_parts}
use Rattle.std.proofs.lemmas.Bool.Decides.{nat_tests}
use Rattle.std.proofs.lemmas.List.Sums.{sum_by-cons}
use borrow.Author.Tests.{leb-true, leb-false, ltb-true, ltb-false, lt-leb}
use Rattle.basis.specs.Choice.{pick, between}
use Rattle.quantities.specs.Limits.{last_minute}
use Rattle.plant.specs.Availability.{minutes}
use Rattle.outages.specs.declared.log.Window.{Window}
use Rattle.outages.specs.declared.log.Entry.{Entry}
use Rattle.outages.specs.Log.{planned, forced, entry_in_range, in_order}
use Rattle.outages.specs.Outages.{minutes_within, minutes_of_kind, figures_of}
use Rattle.outages.specs.Promises.{count_minutes, lies_in}

-- what passes either of two tests that exclude each other
module _ {X : Type 0} (A B : X → Bool) (apart : (x : X) → A x ≡ true → B x ≡ false) where
  one : (a b : Bool) → (a ≡ true → b ≡ false) → cond (a || b) 1 0 ≡ cond a 1 0 + cond b 1 0
  one true true h = absurd (mathlib.Core.Bool.false≢true (sym (h refl)))
  one true false h = refl
  one false b h = omega arith

  pub count_either : (l : List X) → count_by (λ x. A x || B x) l ≡ count_by A l + count_by B l
  count_either [] = refl
  count_either (x ∷ l) =
      omega (arith, sum_by-cons (λ y. cond (A y || B y) 1 0) x l, sum_by-cons (λ y. cond (A y) 1 0) x l, sum_by-cons (λ y. cond (B y) 1 0) x l, one (A x) (B x) (apart x), count_either l)

module _ {X : Type 0} (test : X → Bool) where
  -- what fails a test, and what passes it
  other : (b : Bool) → cond (not b) 1 0 + cond b 1 0 ≡ 1
  other true = refl
  other false = refl

  pub count_not : (l : List X) → count_by (λ x. not (test x)) l + count_by test l ≡ length l
  count_not [] = refl
  count_not (x ∷ l) =
      omega (arith, sum_by-cons (λ y. cond (not (test y)) 1 0) x l, sum_by-cons (λ y. cond (test y) 1 0) x l, other (test x), count_not l)

pub count_none : {X : Type 0} (l : List X) → count_by (λ x. false) l ≡ 0
count_none [] = refl
count_none (x ∷ l) = omega (arith, sum_by-cons (λ y. cond false 1 0) x l, count_none l)

-- the minutes from s on, n of them, that lie from a to t
step : (a t s n : ℕ) (p q : Bool) → leb a s ≡ p → ltb s t ≡ q → cond (p && q) 1 0 + (min (s + 1 + n) t - max (s + 1) a) ≡ min (s + suc n) t - max s a
step a t s n true true e f = omega (arith, leb-true a s e, ltb-true s t f)
step a t s n true false e f = omega (arith, leb-true a s e, ltb-false s t f)
step a t s n false q e f = omega (arith, leb-false a s e)

pub count_between : (a t s n : ℕ) → count_by (λ m. leb a m && ltb m t) (range_with_len s n) ≡ min (s + n) t - max s a
count_between a t s zero = omega arith
count_between a t s (suc n) =
    sum_by-cons (λ m. cond (leb a m && ltb m t) 1 0) s (range_with_len (s + 1) n)
    ∙ ap (λ k. cond (leb a s && ltb s t) 1 0 + k) (count_between a t (s + 1) n)
    ∙ step a t s n (leb a s) (ltb s t) refl refl

-- of the entries whose kind passes a test
module _ (which : ℕ → Bool) where
  -- a minute that lies in an entry stands before its end
  before_end : (w p q : Bool) (m t : ℕ) → ltb m t ≡ q → w && (p && q) ≡ true → m < t
  before_end w p true m t e h = ltb-true m t e
  before_end true true false m t e h = absurd (mathlib.Core.Bool.false≢true h)
  before_end true false false m t e h = absurd (mathlib.Core.Bool.false≢true h)
  before_end false p false m t e h = absurd (mathlib.Core.Bool.false≢true h)

  none_before : (w q : Bool) → w && (false && q) ≡ false
  none_before true q = refl
  none_before false q = refl

  -- no entry holds a minute before the first of them may begin
  pub free_of_entries : (free m : ℕ) (es : List Entry) → in_order free es ≡ true → m < free → list_any (λ e. which e.kind && lies_in m e) es ≡ false
  free_of_entries free m [] o h = refl
  free_of_entries free m (e ∷ es) o h =
      let parts = and_parts (leb free e.start && ltb e.start e.end) (in_order e.end es) o in
      let ends = and_parts (leb free e.start) (ltb e.start e.end) parts.0 in
      let late : m < e.start = omega (arith, leb-true free e.start ends.0, h) in
      rw (lt-leb e.start m late, none_before (which e.kind) (ltb m e.end)) (free_of_entries e.end m es parts.1 (omega (arith, late, ltb-true e.start e.end ends.1)))

  of_one : (w : Bool) (e : Entry) (s n : ℕ) → count_by (λ m. w && lies_in m e) (range_with_len s n) ≡ pick w (min (s + n) e.end - max s e.start) 0
  of_one true e s n = count_between e.start e.end s n
  of_one false e s n = count_none (range_with_len s n)

  -- as many minutes lie in them as their own minutes are in all
  pub count_entries : (free s n : ℕ) (es : List Entry) → in_order free es ≡ true → count_by (λ m. list_any (λ e. which e.kind && lies_in m e) es) (range_with_len s n) ≡ sum_by (λ e. pick (which e.kind) (min (s + n) e.end - max s e.start) 0) es
  count_entries free s n [] o = count_none (range_with_len s n)
  count_entries free s n (e ∷ es) o =
      let parts = and_parts (leb free e.start && ltb e.start e.end) (in_order e.end es) o in
      count_either (λ m. which e.kind && lies_in m e) (λ m. list_any (λ d. which d.kind && lies_in m d) es)
      (λ m h. free_of_entries e.end m es parts.1 (before_end (which e.kind) (leb e.start m) (ltb m e.end) m e.end refl h))
      (range_with_len s n)
      ∙ omega (arith, of_one (which e.kind) e s n, count_entries e.end s n es parts.1, sum_by-cons (λ d. pick (which d.kind) (min (s + n) d.end - max s d.start) 0) e es)

  -- .. within a window
  pub count_within : (w : Window) (es : List Entry) → w.start < w.end → in_order 0 es ≡ true → sum_by (λ e. pick (which e.kind) (minutes_within w e) 0) es ≡ count_minutes w (λ m. list_any (λ e. which e.kind && lies_in m e) es)
  count_within w es h o =
      let whole : w.start + (w.end - w.start) ≡ w.end = omega arith in
      sym (count_entries 0 w.start (w.end - w.start) es o ∙ ap (λ t. sum_by (λ e. pick (which e.kind) (min t e.end - max w.start e.start) 0) es) whole)

-- all entries in range are of one kind or the other
by_kind : (k x : ℕ) → between planned forced k ≡ true → x ≡ pick (eqb k planned) x 0 + pick (eqb k forced) x 0
by_kind k x h = grind (arith, nat_tests)

pub sum_of_kinds : (w : Window) (es : List Entry) → list_all entry_in_range es ≡ true → sum_by (λ e. minutes_within w e) es ≡ minutes_of_kind w planned es + minutes_of_kind w forced es
sum_of_kinds w [] h = refl
sum_of_kinds w (e ∷ es) h =
    let parts = and_parts (entry_in_range e) (list_all entry_in_range es) h in
    let kind = and_parts (leb e.start last_minute && leb e.end last_minute) (between planned forced e.kind) parts.0 in
    omega (arith, sum_by-cons (λ d. minutes_within w d) e es, sum_by-cons (λ d. pick (eqb d.kind planned) (minutes_within w d) 0) e es, sum_by-cons (λ d. pick (eqb d.kind forced) (minutes_within w d) 0) e es, by_kind e.kind (minutes_within w e) kind.1, sum_of_kinds w es parts.1)

-- the figures by the minutes of all entries, and by those of the forced ones
pub figures_found : (w : Window) (hed all forced_ones : ℕ) (es : List Entry) → list_all entry_in_range es ≡ true → all ≡ sum_by (λ e. minutes_within w e) es → forced_ones ≡ minutes_of_kind w forced es → minutes (w.end - w.start - all) (all - forced_ones) forced_ones hed ≡ figures_of w hed es
figures_found w hed all forced_ones es h e f =
    let kinds = sum_of_kinds w es h in
    let rest : w.end - w.start - all ≡ w.end - w.start - minutes_of_kind w planned es - minutes_of_kind w forced es = omega (arith, kinds, e) in
    let first : all - forced_ones ≡ minutes_of_kind w planned es = omega (arith, kinds, e, f) in
    rw (rest, first, f) refl
