-- What a call of a contract in range shows of its fields.
use mathlib.Core.Path.{◌≡◌}
use mathlib.Core.List.{List}
use Prim.Native.Nat.{ℕ}
use native.Mathlib.Omega.{arith}
use Rattle.quantities.specs.Limits.{producers, consumers, greatest_power}
use Rattle.table.specs.Records.{consumer_field, table_of, parts_of}
use Rattle.table.specs.Ranges.{call_number}
use Rattle.table.specs.declared.calls.Call.TheVariants.{Contract}
use Rattle.table.specs.declared.contracts.ContractCall.{ContractCall}
use Rattle.table.specs.declared.contracts.ContractCall.TheVariants.{Commit, Release}
use Rattle.table.specs.declared.forms.Mark.TheVariants as mark
use Rattle.table.proofs.ConsumerFields.{field_numbered}
use Rattle.table.proofs.Laws.{field_in_range, Numbered, numbered}
use Rattle.table.proofs.Table.{lawful, of_parts}

pub record ContractRanged (p c x : ℕ) : Type 0 where
  pub producer : Numbered producers p
  pub consumer : Numbered consumers c
  pub q : Numbered greatest_power x

pub commit-ranged : (producer consumer q : ℕ) (rs : List ℕ) → call_number (Contract producer consumer (Commit q)) rs ≡ 0 → ContractRanged producer consumer q
unfolding table_of parts_of
commit-ranged producer consumer q rs e =
    let f = field_in_range (Contract producer consumer (Commit q)) (lawful (mark.Commit (consumer_field consumer))) (of_parts (Contract producer consumer (Commit q))) rs e in
    record { producer = numbered (f 0 (omega arith)); consumer = field_numbered (f 1 (omega arith)); q = numbered (f 2 (omega arith)) }

pub release-ranged : (producer consumer q : ℕ) (rs : List ℕ) → call_number (Contract producer consumer (Release q)) rs ≡ 0 → ContractRanged producer consumer q
unfolding table_of parts_of
release-ranged producer consumer q rs e =
    let f = field_in_range (Contract producer consumer (Release q)) (lawful (mark.Release (consumer_field consumer))) (of_parts (Contract producer consumer (Release q))) rs e in
    record { producer = numbered (f 0 (omega arith)); consumer = field_numbered (f 1 (omega arith)); q = numbered (f 2 (omega arith)) }

-- the fields of any call in range
abbrev pub amount_of : ContractCall → ℕ
amount_of (Commit q) = q
amount_of (Release q) = q

pub contract_numbered : (producer consumer : ℕ) (act : ContractCall) (rs : List ℕ) → call_number (Contract producer consumer act) rs ≡ 0 → ContractRanged producer consumer (amount_of act)
contract_numbered producer consumer (Commit q) rs e = commit-ranged producer consumer q rs e
contract_numbered producer consumer (Release q) rs e = release-ranged producer consumer q rs e
