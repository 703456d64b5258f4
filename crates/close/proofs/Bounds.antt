-- What the figures of an accepted close are at most: DFA, a charge, and all charges.
use mathlib.Core.Path.{◌≡◌}
use mathlib.Core.Bool.{Bool, true, false}
use mathlib.Core.List.{List}
use Prim.Native.Nat.{ℕ, ◌-◌, ◌*◌, ◌≤◌, zero-le}
use native.Mathlib.Nat.{mul-le-mul}
use native.Mathlib.Omega.{arith}
use lib.Dec.{ltb}
use lib.ListN.{get_or}
use Rattle.basis.specs.Choice.{pick}
use Rattle.basis.specs.Sums.{sum, all_at_most}
use Rattle.basis.specs.Tables.{tab}
use Rattle.basis.proofs.Sums.{sum_up_at_most}
use Rattle.basis.proofs.Tables.{sum-tab}
use Rattle.quantities.specs.Limits.{greatest_total, greatest_power, greatest_price}
use Rattle.state.specs.declared.kept.Declaration.{Declaration}
use Rattle.state.specs.declared.kept.Declaration.TheVariants.{Undeclared, Declared}
use Rattle.state.specs.declared.kept.Consumer.{Consumer}
use Rattle.state.specs.State.{fresh_consumer}
use Rattle.close.specs.Close.{reals_of, adjusted_in, charge_by, charges_in, all_heard}

-- what one consumer is charged at most
abbrev pub greatest_charge : ℕ
greatest_charge = greatest_power * greatest_price * 12

-- kW in range times P
pub priced_at_most : (p x : ℕ) → x ≤ greatest_power → p ≤ greatest_price → x * p ≤ greatest_power * greatest_price
priced_at_most p x h k = mul-le-mul {n₂ = greatest_power} {m₂ = greatest_price} h k

-- a charge is bounded by DFA and the price
pub charge_at_most : (p dfa : ℕ) (x : Declaration) → dfa ≤ greatest_power → p ≤ greatest_price → charge_by p dfa x ≤ greatest_charge
charge_at_most p dfa Undeclared h k = zero-le
charge_at_most p dfa (Declared f) h k = go (ltb (100 * f.d) (98 * f.a))
  where
    go : (t : Bool) → pick t ((dfa - f.df) * p * 12) 0 ≤ greatest_charge
    go true = omega (arith, priced_at_most p (dfa - f.df) (omega arith) k)
    go false = zero-le

-- the charges of n consumers: each at most the greatest
pub charges_at_most : (p : ℕ) (adjusted : List ℕ) (xs : List Consumer) (n : ℕ) → ((k : ℕ) → get_or adjusted k 0 ≤ greatest_power) → p ≤ greatest_price → sum (tab (λ i. charge_by p (get_or adjusted i 0) (get_or xs i fresh_consumer).declaration) n) ≤ n * greatest_charge
charges_at_most p adjusted xs n e k =
    let f : ℕ → ℕ = λ i. charge_by p (get_or adjusted i 0) (get_or xs i fresh_consumer).declaration in
    omega (arith, sum-tab f n, sum_up_at_most greatest_charge f n (λ i _. charge_at_most p (get_or adjusted i 0) (get_or xs i fresh_consumer).declaration (e i) k))

-- a close that is accepted has its price in range, no declared consumer without a Dreal, no DFA above the greatest, and charges that a division takes
pub record AcceptedClose (dmp : ℕ) (xs : List Consumer) (p : ℕ) : Type 0 where
  pub price : p ≤ greatest_price
  pub heard : all_heard (reals_of xs) ≡ true
  pub within : all_at_most greatest_power (adjusted_in dmp xs) ≡ true
  pub charged : sum (charges_in p dmp xs) ≤ greatest_total
