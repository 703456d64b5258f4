-- The printed close of every list: the figures fit their columns, and the lines are those of the accepted calls.
use Rattle.std.specs.Prelude.{Option, None, Some}
use mathlib.Core.Path.{◌≡◌, refl, sym, ap, ◌∙◌}
use mathlib.Core.Bool.{Bool, true, false, false≢true}
use mathlib.Core.List.{List, [], ◌∷◌, map}
use Prim.Native.Nat.{ℕ, zero, suc, ◌+◌, ◌-◌, ◌≤◌, ◌<◌}
use native.Mathlib.Nat.{le_trans}
use native.Mathlib.Numerals.{add-one}
use native.Mathlib.Omega.{arith}
use borrow.Author.Tests.{lt-ltb, le-ltb, eq-eqb, ne_eqb}
use lib.ListN.{length, get_or, length-map}
use Rattle.basis.specs.Choice.{pick}
use Rattle.basis.specs.Sums.{sum}
use Rattle.basis.proofs.Sums.{at_most_sum, all_at_most_lem, sum_as_sum_up, sum_up_at_most}
use Rattle.basis.proofs.Tables.{get_or-tab}
use Rattle.quantities.specs.Limits.{greatest_total, greatest_power, consumers}
use Rattle.text.specs.Text.{plain, less, amount_of, joined}
use Rattle.text.proofs.Alignment.{plain-short, amount_short}
use Rattle.text.proofs.Joining.{joined_same}
use Rattle.state.specs.declared.kept.Consumer.{Consumer}
use Rattle.state.specs.declared.kept.Book.{Book}
use Rattle.state.specs.State.{fresh_book, fresh_consumer, stage_number}
use Rattle.page.specs.Page.{number_if, number_at, declared_consumers, line_of, line_for, lines_of, pages_of, page_count, text_of, bytes_for, print_number}
use Rattle.page.proofs.Whole.{line-whole, heading_whole}
use Rattle.page.proofs.Paging.{always_paged}
use Rattle.page.proofs.Answers.{length-text}
use Rattle.book.specs.Lists.{Event, after_all, accepted_by}
use Rattle.claims.specs.History.{happened, field_in, begun_in, fixed_in, closed_in, declared_in}
use Rattle.claims.specs.Figures.{demand_in, declarations_in, declaration_by, consumer_in, consumers_in, adjusted_demands_in, all_charges_in, all_credits_in}
use Rattle.claims.specs.Demand.{Demand3}
use Rattle.claims.specs.Printed.{declared_number, declared_consumers_in, adjusted_demand_in, charge_in, credit_in, whole_line_in, whole_lines_in, PrintedClose, AlwaysPrinted}
use Rattle.claims.proofs.Kept.{Kept}
use Rattle.claims.proofs.Demands.{demand_at_most, total_positive, declaration_at, length_declarations}
use Rattle.claims.proofs.Numbers.{no_more_than_all, ascending, none_picked, same_of_each}
use Rattle.claims.proofs.Lists.{kept}
use Rattle.claims.proofs.Theorem.{demand3}

-- a consumer's number stands where it is declared
number_by : (number df : ℕ) (l : Option Event) → number_if number (declaration_by df l) ≡ pick (happened l) (number ∷ []) []
number_by number df None = refl
number_by number df (Some e) = refl

-- the number of a consumer has at most three digits
digits_3 : (c : ℕ) → c ≤ consumers → length (amount_of (plain c)) ≤ 3
digits_3 c h = plain-short 2 c (omega arith)

module _ (h : List Event) (b : Book) (k : Kept h b) (d : Demand3 h b) where
  -- the declared consumers of the book are those with an accepted declare
  same_numbers : declared_consumers b.consumers ≡ declared_consumers_in h
  unfolding declared_consumers declared_consumers_in consumers_in
  same_numbers =
      ap (λ xs. joined (number_at xs) consumers) k.consumers.consumers_kept
      ∙ joined_same (number_at (consumers_in h)) (declared_number h) consumers
      (λ i p.
      ap (λ (x : Consumer). number_if (i + 1) x.declaration) (get_or-tab (λ j. consumer_in h (suc j)) consumers i fresh_consumer p)
      ∙ ap (λ n. number_if (i + 1) (consumer_in h n).declaration) (sym (add-one i))
      ∙ number_by (i + 1) (demand_in h (i + 1)) (declared_in h (i + 1)))

  count_small : length (declared_consumers_in h) ≤ consumers
  unfolding declared_consumers_in
  count_small = no_more_than_all (λ i. happened (declared_in h (i + 1))) consumers

  digits_4 : (number : ℕ) → number ≤ page_count (length (declared_consumers_in h)) → length (amount_of (plain number)) ≤ 4
  digits_4 number p = plain-short 3 number (omega (arith, count_small, p))

  module _ (closed : closed_in h ≡ true) where
    fixed : fixed_in h ≡ true
    fixed = k.money.fixed_before closed

    demand_small : (c : ℕ) → 1 ≤ c → demand_in h c ≤ greatest_power
    demand_small c p =
        let e : suc (c - 1) ≡ c = omega (arith, p) in
        le_trans (rw e at (demand_at_most h fixed (k.firm.dmp_shared fixed) (c - 1))) k.firm.dmp_small

    adjusted_small : (c : ℕ) → adjusted_demand_in h c ≤ greatest_power
    adjusted_small c = all_at_most_lem greatest_power (adjusted_demands_in h) (k.money.adjusted_small closed) (c - 1)

    charge_small : (c : ℕ) → charge_in h c ≤ greatest_total
    charge_small c = le_trans (at_most_sum (all_charges_in h) (c - 1)) (k.money.charges_small closed)

    -- no credit is above all charges
    credit_small : (c : ℕ) → credit_in h c ≤ greatest_total
    credit_small c =
        let s = d.sums_defined closed in
        omega (arith, at_most_sum (all_credits_in h) (c - 1), s.0, s.1, ap sum (d.charges_defined closed), ap sum (d.credits_defined closed), d.money_balances closed, k.money.charges_small closed)

    demand_fits : (c : ℕ) → 1 ≤ c → length (amount_of (plain (demand_in h c))) ≤ 7
    demand_fits c p = plain-short 6 (demand_in h c) (omega (arith, demand_small c p))

    adjustment_fits : (c : ℕ) → 1 ≤ c → length (amount_of (less (demand_in h c) (adjusted_demand_in h c))) ≤ 8
    adjustment_fits c p =
        amount_short 6 (demand_in h c) (adjusted_demand_in h c) (omega (arith, demand_small c p)) (omega (arith, adjusted_small c))

    cents_fit : (c : ℕ) → length (amount_of (less (credit_in h c) (charge_in h c))) ≤ 15
    cents_fit c =
        amount_short 13 (credit_in h c) (charge_in h c) (omega (arith, credit_small c)) (omega (arith, charge_small c))

    -- the line of a consumer shows the figures whole
    line_in : (i : ℕ) → i < consumers → line_for b.consumers b.closing.adjusted b.closing.charges b.closing.credits (i + 1) ≡ whole_line_in h (i + 1)
    line_in i p =
        let c = i + 1 in
        ap (λ n. line_of c n (get_or b.closing.adjusted (c - 1) 0) (get_or b.closing.charges (c - 1) 0) (get_or b.closing.credits (c - 1) 0)) (d.demands_defined c (omega arith) (omega arith))
        ∙ ap (λ (l : List ℕ). line_of c (demand_in h c) (get_or l (c - 1) 0) (get_or b.closing.charges (c - 1) 0) (get_or b.closing.credits (c - 1) 0)) (d.adjusted_defined closed)
        ∙ ap (λ (l : List ℕ). line_of c (demand_in h c) (adjusted_demand_in h c) (get_or l (c - 1) 0) (get_or b.closing.credits (c - 1) 0)) (d.charges_defined closed)
        ∙ ap (λ (l : List ℕ). line_of c (demand_in h c) (adjusted_demand_in h c) (charge_in h c) (get_or l (c - 1) 0)) (d.credits_defined closed)
        ∙ line-whole c (demand_in h c) (adjusted_demand_in h c) (charge_in h c) (credit_in h c) (digits_3 c (omega arith)) (demand_fits c (omega arith)) (adjustment_fits c (omega arith)) (cents_fit c)

    text_in : text_of b ≡ pages_of (whole_lines_in h)
    unfolding text_of lines_of declared_consumers_in
    text_in =
        ap pages_of
        (ap (map (line_for b.consumers b.closing.adjusted b.closing.charges b.closing.credits)) same_numbers
        ∙ same_of_each (λ i. happened (declared_in h (i + 1))) (line_for b.consumers b.closing.adjusted b.closing.charges b.closing.credits) (whole_line_in h) consumers line_in)

    -- a consumer is declared, since what was declared is not nothing
    some : 1 ≤ length (declared_consumers_in h)
    unfolding declared_consumers_in
    some = go (length (declared_consumers_in h)) refl
      where
        undeclared : (l : Option Event) → happened l ≡ false → field_in 1 l ≡ 0
        undeclared None q = refl
        undeclared (Some x) q = absurd (false≢true (sym q))

        nothing : length (declared_consumers_in h) ≡ 0 → (i : ℕ) → i < length (declarations_in h) → get_or (declarations_in h) i 0 ≤ 0
        nothing e i p =
            let q : i < consumers = omega (arith, p, length_declarations h) in
            let z : get_or (declarations_in h) i 0 ≡ 0 = declaration_at h i q ∙ ap (λ n. field_in 1 (declared_in h n)) (sym (add-one i)) ∙ undeclared (declared_in h (i + 1)) (none_picked (λ j. happened (declared_in h (j + 1))) consumers e i q) in
            omega (arith, z)

        go : (n : ℕ) → length (declared_consumers_in h) ≡ n → 1 ≤ n
        go zero e =
            absurd
            (omega (arith, total_positive h fixed (k.firm.dmp_shared fixed), sum_as_sum_up (declarations_in h), sum_up_at_most 0 (λ i. get_or (declarations_in h) i 0) (length (declarations_in h)) (nothing e)))
        go (suc n) e = omega arith

  -- the number is that of the stage, and then of the room
  stage_is : stage_number b.stage ≡ pick (closed_in h) 3 (pick (fixed_in h) 2 (pick (begun_in h) 1 0))
  stage_is = k.timing.stage_kept

  below_closed : (f g : Bool) → ◌≡◌ {A = ℕ} (pick f 2 (pick g 1 0)) 3 → ⊥
  below_closed true g e = absurd (omega (arith, e))
  below_closed false true e = absurd (omega (arith, e))
  below_closed false false e = absurd (omega (arith, e))

  open_stage : closed_in h ≡ false → stage_number b.stage ≡ 3 → ⊥
  open_stage q e =
      below_closed (fixed_in h) (begun_in h) (sym (stage_is ∙ ap (λ t. pick t 3 (pick (fixed_in h) 2 (pick (begun_in h) 1 0))) q) ∙ e)

  closed_stage : closed_in h ≡ true → stage_number b.stage ≡ 3
  closed_stage q = stage_is ∙ ap (λ t. pick t 3 (pick (fixed_in h) 2 (pick (begun_in h) 1 0))) q

  rising : (i j : ℕ) → i < j → j < length (declared_consumers_in h) → get_or (declared_consumers_in h) i 0 < get_or (declared_consumers_in h) j 0
  unfolding declared_consumers_in
  rising = ascending (λ i. happened (declared_in h (i + 1))) consumers

  printed_holds : PrintedClose h b
  unfolding print_number
  printed_holds =
      record {
        consumer_fits = digits_3;
        demand_fits = demand_fits;
        adjustment_fits = adjustment_fits;
        cents_fit = λ q c p. cents_fit q c;
        page_number_fits = digits_4;
        heading_whole = λ n p. heading_whole n (digits_4 n p);
        text = text_in;
        lines = length-map (declared_consumers_in h) (whole_line_in h);
        size = λ q. length-text b ∙ ap (λ (l : List ℕ). bytes_for (length l)) same_numbers;
        ascending = rising;
        some = some;
        fifty_one =
            λ q e.
            let two = (always_paged (whole_lines_in h)).fifty_one (length-map (declared_consumers_in h) (whole_line_in h) ∙ e) in
            (text_in q ∙ two.0, two.1, two.2);
        not_closed = λ q room. rw (ne_eqb (stage_number b.stage) 3 (open_stage q)) refl;
        too_short = λ q room p. rw (eq-eqb (stage_number b.stage) 3 (closed_stage q), lt-ltb room (length (text_of b)) p) refl;
        taken = λ q room p. rw (eq-eqb (stage_number b.stage) 3 (closed_stage q), le-ltb room (length (text_of b)) p) refl;
      }

-- the printed close of every list of calls
pub always_printed : AlwaysPrinted
always_printed calls =
    printed_holds (accepted_by fresh_book [] calls) (after_all fresh_book calls) (kept calls) (demand3 calls)
