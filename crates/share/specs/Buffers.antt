-- Division by shares "for C callers": weights 4 bytes each, amounts 8 bytes each, low byte first.
use Rattle.std.specs.Prelude.{◌≡◌, List, ℕ, ◌/◌, ◌%◌, eqb, length}
use Rattle.basis.specs.Choice.{pick}
use Rattle.basis.specs.Numbers.{numbers_of, all_bytes_of, written}
use Rattle.share.specs.Division.{division_number, shares}

-- the weights that a buffer holds
unfoldable pub buffer_weights : List ℕ → List ℕ
buffer_weights buffer = numbers_of 4 (length buffer / 4) buffer

-- "a weight buffer whose length is no multiple of 4 meets 3"; then the division's numbers
unfoldable pub share_number : ℕ → List ℕ → ℕ → ℕ
share_number T buffer room =
    pick (eqb (length buffer % 4) 0) (division_number T (buffer_weights buffer) (room / 8)) 3

-- "Bytes behind the last amount are kept"; a refusal writes no byte
unfoldable pub shared_bytes : ℕ → List ℕ → List ℕ → List ℕ
shared_bytes T buffer old =
    pick (eqb (share_number T buffer (length old)) 0) (written old 0 (all_bytes_of 8 (shares T (buffer_weights buffer)))) old

-- what a division on buffers answers and leaves
pub record Shares (T : ℕ) (buffer old : List ℕ) (number : ℕ) (new : List ℕ) : Type 0 where
  pub answer : number ≡ share_number T buffer (length old)
  pub amounts : new ≡ shared_bytes T buffer old
