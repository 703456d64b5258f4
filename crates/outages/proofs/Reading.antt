-- The numbers of a log as the bytes at their places.
use Rattle.std.proofs.Common.{◌≡◌, refl, List, ℕ, suc, ◌+◌, ◌*◌, ◌<◌, take, get_or, arith}
use Rattle.std.proofs.lemmas.List.{get_or-take}
use Rattle.basis.proofs.Numbers.{number_at-one, number_at-four}
use Rattle.outages.specs.Log.{window_of, hed_of, entry_of}

-- four bytes from a place on
abbrev pub four : List ℕ → ℕ → ℕ
four s at = get_or s at 0 + get_or s (suc at) 0 * 256 + get_or s (suc (suc at)) 0 * 65536 + get_or s (suc (suc (suc at))) 0 * 16777216

pub entry_read : (s : List ℕ) → entry_of s ≡ record { start = four s 0; end = four s 4; kind = get_or s 8 0 }
entry_read s = rw (number_at-four s 0, number_at-four s 4, number_at-one s 8) refl

-- those of the head, the first twelve
four_of_head : (s : List ℕ) (at : ℕ) → at < 9 → four (take 12 s) at ≡ four s at
four_of_head s at h =
    rw (get_or-take 12 s at 0 (omega arith), get_or-take 12 s (suc at) 0 (omega arith), get_or-take 12 s (suc (suc at)) 0 (omega arith), get_or-take 12 s (suc (suc (suc at))) 0 (omega arith)) refl

pub window_read : (s : List ℕ) → window_of s ≡ record { start = four (take 12 s) 0; end = four (take 12 s) 4 }
window_read s = rw (number_at-four s 0, number_at-four s 4, four_of_head s 0 (omega arith), four_of_head s 4 (omega arith)) refl

pub hed_read : (s : List ℕ) → hed_of s ≡ four (take 12 s) 8
hed_read s = rw (number_at-four s 8, four_of_head s 8 (omega arith)) refl
