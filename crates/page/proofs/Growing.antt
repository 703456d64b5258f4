-- The loop over the consumers: the text of the first of them, and what one more adds.
use Rattle.std.proofs.Common.{◌≡◌, Bool, ℕ, zero, suc, ◌+◌, ◌-◌, ◌≤◌, ◌<◌, zero-le, le_refl, le_trans, List, [], ◌∷◌, ◌++◌, Option, Some, None, cond, length, length-append, get_or, take, map, refl, sym, ap, ◌∙◌, append-nil, arith}
use mathlib.Core.List.{map-append}
use native.Mathlib.Numerals.{add-one}
use lib.ListN.{length-map}
use lib.Seq.{take_all}
use borrow.Rule.Slice.PartMut.{put_mid}
use Rattle.std.specs.Option.{is_some}
use Rattle.std.specs.List.{filter}
use Rattle.std.proofs.lemmas.List.Filters.{length-filter_more}
use Rattle.basis.specs.Numbers.{written}
use Rattle.basis.proofs.Numbers.{written_none, written-append, put_whole}
use Rattle.quantities.specs.Limits.{consumers}
use Rattle.text.specs.Text.{joined}
use Rattle.text.proofs.Joining.{joined_none, joined_more, length-joined_more, joined-within, joined-short}
use Rattle.state.specs.declared.kept.Declaration.{Declaration}
use Rattle.state.specs.declared.kept.Declaration.TheVariants.{Undeclared, Declared}
use Rattle.state.specs.declared.kept.Figures.{Figures}
use Rattle.state.specs.declared.kept.Consumer.{Consumer}
use Rattle.state.specs.declared.kept.CloseFigures.{CloseFigures}
use Rattle.state.specs.State.{fresh_consumer, figures_of, firm_demand_by}
use Rattle.page.specs.Page.{number_if, number_at, declared_consumers, line_of, line_for, lines_of, pages_of, bytes_for, heading_behind}
use Rattle.page.proofs.Lengths.{length-line, one_more, bytes-within}
use Rattle.page.proofs.Laying.{no_pages, pages_more, pages-length}

abbrev pub is_declared : Consumer → Bool
is_declared x = is_some (figures_of x.declaration)

-- a declared consumer has a line
lines_had : (number : ℕ) (d : Declaration) → length (number_if number d) ≡ cond (is_some (figures_of d)) 1 0
lines_had number Undeclared = refl
lines_had number (Declared f) = refl

one_at_most : (number : ℕ) (d : Declaration) → length (number_if number d) ≤ 1
one_at_most number Undeclared = zero-le
one_at_most number (Declared f) = le_refl 1

-- how many of the first i consumers are declared
abbrev pub count_to : List Consumer → ℕ → ℕ
count_to xs i = length (joined (number_at xs) i)

pub count_more : (xs : List Consumer) (i : ℕ) → count_to xs (i + 1) ≡ count_to xs i + cond (is_declared (get_or xs i fresh_consumer)) 1 0
count_more xs i =
    length-joined_more (number_at xs) i ∙ ap (λ n. count_to xs i + n) (lines_had (i + 1) (get_or xs i fresh_consumer).declaration)

pub count_at_most : (xs : List Consumer) (i : ℕ) → count_to xs i ≤ i
count_at_most xs i =
    joined-short (number_at xs) i (λ k. one_at_most (k + 1) (get_or xs k fresh_consumer).declaration)

-- as the library counts them
count_filter : (xs : List Consumer) (i : ℕ) → i ≤ length xs → count_to xs i ≡ length (filter is_declared (take i xs))
count_filter xs zero h = ap length (joined_none (number_at xs))
count_filter xs (suc i) h =
    rw (← add-one i) (count_more xs i ∙ ap (λ n. n + cond (is_declared (get_or xs i fresh_consumer)) 1 0) (count_filter xs i (omega arith)) ∙ sym (length-filter_more is_declared xs i fresh_consumer (omega arith)))

pub count_all : (xs : List Consumer) → length (declared_consumers xs) ≡ count_to xs consumers
unfolding declared_consumers
count_all xs = refl

pub counted : (xs : List Consumer) → length xs ≡ consumers → length (filter is_declared xs) ≡ length (declared_consumers xs)
counted xs h =
    ap (λ (l : List Consumer). length (filter is_declared l)) (sym (take_all consumers xs (omega arith)))
    ∙ sym (count_filter xs consumers (omega arith))
    ∙ sym (count_all xs)

pub declared-within : (xs : List Consumer) → length (declared_consumers xs) ≤ consumers
declared-within xs = omega (arith, count_all xs, count_at_most xs consumers)

-- there is room for one more consumer
pub count_within : (xs : List Consumer) (i : ℕ) → i < consumers → count_to xs (i + 1) ≤ length (declared_consumers xs)
unfolding declared_consumers
count_within xs i h = joined-within (number_at xs) (i + 1) consumers (omega arith)

module _ (xs : List Consumer) (closing : CloseFigures) where
  -- the line of a consumer
  abbrev line : ℕ → List ℕ
  line = line_for xs closing.adjusted closing.charges closing.credits

  -- the text of the first i consumers
  abbrev pub text_to : ℕ → List ℕ
  text_to i = pages_of (map line (joined (number_at xs) i))

  pub length_to : (i : ℕ) → length (text_to i) ≡ bytes_for (count_to xs i)
  length_to i =
      pages-length line (λ c. length-line c (firm_demand_by (get_or xs (c - 1) fresh_consumer).declaration) (get_or closing.adjusted (c - 1) 0) (get_or closing.charges (c - 1) 0) (get_or closing.credits (c - 1) 0)) (joined (number_at xs) i)

  pub text_all : text_to consumers ≡ pages_of (lines_of xs closing.adjusted closing.charges closing.credits)
  unfolding declared_consumers lines_of
  text_all = refl

  pub text_none : text_to 0 ≡ []
  text_none = ap (λ (l : List ℕ). pages_of (map line l)) (joined_none (number_at xs)) ∙ no_pages

  -- the line of a declared consumer, as the book has its figures
  abbrev pub line_at : ℕ → Figures → List ℕ
  line_at i f = line_of (i + 1) f.df (get_or closing.adjusted i 0) (get_or closing.charges i 0) (get_or closing.credits i 0)

  -- a consumer that is not declared adds nothing
  text_same : (i : ℕ) (d : Declaration) → (get_or xs i fresh_consumer).declaration ≡ d → figures_of d ≡ None → text_to (i + 1) ≡ text_to i
  text_same i Undeclared e z =
      ap (λ (l : List ℕ). pages_of (map line l)) (joined_more (number_at xs) i ∙ ap (λ (d : Declaration). joined (number_at xs) i ++ number_if (i + 1) d) e ∙ append-nil (joined (number_at xs) i))
  text_same i (Declared f) e z = absurd (cc)

  -- a declared one adds its line, with a heading where a page begins
  text_more : (i : ℕ) (d : Declaration) (f : Figures) → (get_or xs i fresh_consumer).declaration ≡ d → figures_of d ≡ Some f → text_to (i + 1) ≡ text_to i ++ (heading_behind (count_to xs i) ++ line_at i f)
  text_more i Undeclared f e z = absurd (cc)
  text_more i (Declared g) f e z =
      let before = joined (number_at xs) i in
      let here : i + 1 - 1 ≡ i = omega arith in
      let figures : g ≡ f = cc in
      let shown : line (i + 1) ≡ line_at i f = ap (λ n. line_of (i + 1) (firm_demand_by (get_or xs n fresh_consumer).declaration) (get_or closing.adjusted n 0) (get_or closing.charges n 0) (get_or closing.credits n 0)) here
      ∙ ap (λ (d : Declaration). line_of (i + 1) (firm_demand_by d) (get_or closing.adjusted i 0) (get_or closing.charges i 0) (get_or closing.credits i 0)) e
      ∙ ap (line_at i) figures in
      ap (λ (l : List ℕ). pages_of (map line l)) (joined_more (number_at xs) i ∙ ap (λ (d : Declaration). before ++ number_if (i + 1) d) e)
      ∙ ap pages_of (map-append line before ((i + 1) ∷ []))
      ∙ pages_more (map line before) (line (i + 1))
      ∙ ap (λ n. text_to i ++ (heading_behind n ++ line (i + 1))) (length-map before line)
      ∙ ap (λ (l : List ℕ). text_to i ++ (heading_behind (count_to xs i) ++ l)) shown

  -- the text of the first i consumers stands at the front
  pub record Standing (old : List ℕ) (i lines : ℕ) (new : List ℕ) : Type 0 where
    pub count : lines ≡ count_to xs i
    pub text : new ≡ written old 0 (text_to i)

  pub standing_none : (old : List ℕ) → Standing old 0 0 old
  standing_none old =
      record {
        count = sym (ap length (joined_none (number_at xs)));
        text = sym (ap (written old 0) text_none ∙ written_none old 0);
      }

  -- a consumer that is not declared
  pub standing_same : {old now : List ℕ} {i lines : ℕ} → Standing old i lines now → figures_of (get_or xs i fresh_consumer).declaration ≡ None → Standing old (i + 1) lines now
  standing_same {old} {now} {i} {lines} s e =
      record {
        count = s.count ∙ sym (count_more xs i ∙ ap (λ (o : Option Figures). count_to xs i + cond (is_some o) 1 0) e ∙ omega arith);
        text = s.text ∙ ap (written old 0) (sym (text_same i (get_or xs i fresh_consumer).declaration refl e));
      }

  -- a declared one, whose line is put behind the others
  module _ {old now : List ℕ} {i lines : ℕ} {f : Figures} (s : Standing old i lines now) (h : i < consumers) (room : bytes_for (length (declared_consumers xs)) ≤ length old) (e : figures_of (get_or xs i fresh_consumer).declaration ≡ Some f) where
    counted_more : lines + 1 ≡ count_to xs (i + 1)
    counted_more = ap (λ n. n + 1) s.count ∙ sym (count_more xs i ∙ ap (λ (o : Option Figures). count_to xs i + cond (is_some o) 1 0) e)

    place_behind : bytes_for lines + length (heading_behind lines ++ line_at i f) ≡ bytes_for (lines + 1)
    place_behind =
        omega (arith, length-append (heading_behind lines) (line_at i f), length-line (i + 1) f.df (get_or closing.adjusted i 0) (get_or closing.charges i 0) (get_or closing.credits i 0), one_more lines)

    -- there is room for it
    pub room_behind : bytes_for lines + length (heading_behind lines ++ line_at i f) ≤ length old
    room_behind =
        rw place_behind (le_trans (bytes-within (lines + 1) (length (declared_consumers xs)) (rw counted_more (count_within xs i h))) room)

    pub standing_more : {place n : ℕ} {part : List ℕ} → place ≡ bytes_for lines → n ≡ length part → part ≡ heading_behind lines ++ line_at i f → Standing old (i + 1) (lines + 1) (put_mid place (place + n - place) now part)
    standing_more {place} {n} {part} p m q =
        let here : place ≡ 0 + length (text_to i) = omega (arith, p, length_to i, ap bytes_for s.count) in
        let fits : 0 + length (text_to i) ≤ length old = omega (arith, p, here, room_behind) in
        let more : text_to (i + 1) ≡ text_to i ++ part = text_more i (get_or xs i fresh_consumer).declaration f refl e ∙ ap (λ n. text_to i ++ (heading_behind n ++ line_at i f)) (sym s.count) ∙ ap (λ (l : List ℕ). text_to i ++ l) (sym q) in
        record {
          count = counted_more;
          text =
              put_whole now place n part part (sym m) refl
              ∙ ap (λ (l : List ℕ). written l place part) s.text
              ∙ ap (λ k. written (written old 0 (text_to i)) k part) here
              ∙ sym (written-append old 0 (text_to i) part fits)
              ∙ ap (written old 0) (sym more);
        }
