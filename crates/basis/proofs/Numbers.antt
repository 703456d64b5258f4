-- Numbers as bytes, low byte first: one law for every width.
use mathlib.Core.Path.{◌≡◌, refl, sym, ap, ◌∙◌}
use mathlib.Core.List.{List, [], ◌∷◌, ◌++◌, append_assoc, append-nil}
use Prim.Native.Nat.{ℕ, zero, suc, ◌+◌, ◌-◌, ◌*◌, ◌/◌, ◌%◌, ◌^◌, ◌≤◌, ◌<◌}
use native.Mathlib.Nat.{pow-succ', pow-le-pow_right, mul_comm, mul_assoc, mul-add, add-zero, zero-add, add-suc, suc-add, add_assoc, mod-lt, div-add-mod', mul-le-mul_left, le_refl, mul-suc, zero-lt-suc, add-mul-div_left, add-mul-mod_self_left, mod-eq_of_lt, div-eq_of_lt, div-lt_iff_lt-mul}
use native.Mathlib.Omega.{arith}
use lib.ListN.{length, get_or, set, take, drop, length-append, length-take, length-drop, length-set, take-append-drop}
use lib.Seq.{drop-cons, take-suc-set, drop-set-lt, get_or-drop, take_all, length-take-le, drop-drop}
use borrow.Rule.Slice.PartMut.{put_mid}
use Rattle.std.specs.List.{flat_map}
use Rattle.std.proofs.lemmas.List.{take_more, take_more_set}
use Rattle.std.proofs.lemmas.List.Concat.{flat_map-append}
use Rattle.basis.specs.Numbers.{Bytes, number, bytes_of, number_at, written, all_bytes_of}

pub length-bytes_of : (w x : ℕ) → length (bytes_of w x) ≡ w
unfolding bytes_of
length-bytes_of zero x = refl
length-bytes_of (suc w) x = ap suc (length-bytes_of w (x / 256))

pub length-all_bytes_of : (w : ℕ) (l : List ℕ) → length (all_bytes_of w l) ≡ w * length l
unfolding all_bytes_of
length-all_bytes_of w [] = sym (native.Mathlib.Nat.mul-zero w)
length-all_bytes_of w (x ∷ l) =
    length-append (bytes_of w x) (all_bytes_of w l)
    ∙ omega (arith, length-bytes_of w x, length-all_bytes_of w l, mul-suc w (length l))

-- bytes make a number below 256 to their count
pub number_below : (s : List ℕ) → Bytes s → number s < 256 ^ length s
unfolding number
number_below [] h = omega arith
number_below (b ∷ s) h =
    rw (pow-succ' 256 (length s)) (omega (arith, h 0, number_below s (λ k. h (suc k))))

pub bytes_take : (n : ℕ) (s : List ℕ) → Bytes s → Bytes (take n s)
bytes_take zero s h k = omega arith
bytes_take (suc n) [] h k = omega arith
bytes_take (suc n) (b ∷ s) h zero = h 0
bytes_take (suc n) (b ∷ s) h (suc k) = bytes_take n s (λ j. h (suc j)) k

pub bytes_drop : (n : ℕ) (s : List ℕ) → Bytes s → Bytes (drop n s)
bytes_drop n s h k = rw (get_or-drop n s k 0) (h (n + k))

-- as many bytes as a place has room for, and at most w
pub number_at_below : (w : ℕ) (s : List ℕ) (at : ℕ) → Bytes s → number_at w s at < 256 ^ w
number_at_below w s at h =
    let n : ℕ = length (take w (drop at s)) in
    let p : n ≤ w = omega (arith, length-take w (drop at s)) in
    omega (arith, number_below (take w (drop at s)) (bytes_take w (drop at s) (bytes_drop at s h)), pow-le-pow_right {n = 256} (omega arith) p)

-- one byte more, in front
pub number_at_more : (w : ℕ) (s : List ℕ) (at : ℕ) → at < length s → number_at (suc w) s at ≡ get_or s at 0 + 256 * number_at w s (suc at)
unfolding number
number_at_more w s at h = rw (drop-cons s at 0 h) refl

-- what the bytes of a number stand for
pub number-bytes_of : (w x : ℕ) → x < 256 ^ w → number (bytes_of w x) ≡ x
unfolding number bytes_of
number-bytes_of zero x h = omega arith
number-bytes_of (suc w) x h =
    let p : x / 256 < 256 ^ w = (div-lt_iff_lt-mul {k = 256} (omega arith)).1 (rw (← native.Mathlib.Nat.pow-suc 256 w) h) in
    omega (arith, number-bytes_of w (x / 256) p)

pub bytes-bytes_of : (w x : ℕ) → Bytes (bytes_of w x)
unfolding bytes_of
bytes-bytes_of zero x k = omega arith
bytes-bytes_of (suc w) x zero = omega arith
bytes-bytes_of (suc w) x (suc k) = bytes-bytes_of w (x / 256) k

-- the bytes of the number that bytes stand for
pub bytes_of-number : (s : List ℕ) → Bytes s → bytes_of (length s) (number s) ≡ s
unfolding number bytes_of
bytes_of-number [] h = refl
bytes_of-number (b ∷ s) h =
    let low : (b + 256 * number s) % 256 ≡ b = add-mul-mod_self_left b 256 (number s) ∙ mod-eq_of_lt (h 0) in
    let high : (b + 256 * number s) / 256 ≡ number s = omega (arith, h 0) in
    rw (low, high) (ap (λ (l : List ℕ). b ∷ l) (bytes_of-number s (λ k. h (suc k))))

module _ {A : Type 0} where
  pub written_none : (old : List A) (at : ℕ) → written old at [] ≡ old
  written_none old at = rw (add-zero at) (take-append-drop at old)

  -- one element, then the rest
  pub written-cons : (old : List A) (at : ℕ) (b : A) (bs : List A) → at < length old → written old at (b ∷ bs) ≡ written (set old at b) (suc at) bs
  written-cons old at b bs h =
      rw (take-suc-set old at b h, drop-set-lt (suc at + length bs) old at b (omega arith), append_assoc (take at old) (b ∷ []) (bs ++ drop (suc at + length bs) old), add-suc at (length bs), suc-add at (length bs))

  -- a list, then another behind it
  pub written-append : (old : List A) (at : ℕ) (xs ys : List A) → at + length xs ≤ length old → written old at (xs ++ ys) ≡ written (written old at xs) (at + length xs) ys
  written-append old at [] ys h =
      ap (λ (l : List A). written l at ys) (sym (written_none old at)) ∙ ap (λ k. written (written old at []) k ys) (sym (add-zero at))
  written-append old at (x ∷ xs) ys h =
      written-cons old at x (xs ++ ys) (omega arith)
      ∙ written-append (set old at x) (suc at) xs ys (rw (length-set old at x) (omega arith))
      ∙ ap (λ k. written (written (set old at x) (suc at) xs) k ys) (suc-add at (length xs) ∙ sym (add-suc at (length xs)))
      ∙ ap (λ (l : List A). written l (at + suc (length xs)) ys) (sym (written-cons old at x xs (omega arith)))

  pub length-written : (old : List A) (at : ℕ) (new : List A) → at + length new ≤ length old → length (written old at new) ≡ length old
  length-written old at new h =
      simp (length-append, length-take, length-drop) (omega arith)

-- the number at a place is its lowest byte, and 256 times the number behind it
pub number_at-suc : (w : ℕ) (s : List ℕ) (at : ℕ) → number_at (suc w) s at ≡ get_or s at 0 + 256 * number_at w s (suc at)
unfolding number
number_at-suc zero [] zero = refl
number_at-suc (suc w) [] zero = refl
number_at-suc w (b ∷ s) zero = refl
number_at-suc zero [] (suc at) = refl
number_at-suc (suc w) [] (suc at) = refl
number_at-suc w (b ∷ s) (suc at) = number_at-suc w s at

-- .. of one byte, and of four
pub number_at-one : (s : List ℕ) (at : ℕ) → number_at 1 s at ≡ get_or s at 0
unfolding number
number_at-one s at = omega (arith, number_at-suc 0 s at)

pub number_at-four : (s : List ℕ) (at : ℕ) → number_at 4 s at ≡ get_or s at 0 + get_or s (suc at) 0 * 256 + get_or s (suc (suc at)) 0 * 65536 + get_or s (suc (suc (suc at))) 0 * 16777216
number_at-four s at =
    omega (arith, number_at-suc 3 s at, number_at-suc 2 s (suc at), number_at-suc 1 s (suc (suc at)), number_at-one s (suc (suc (suc at))))

-- one digit more to the right, in front of what was read
pub digit_more : (w x b : ℕ) → x < 256 ^ w → b < 256 → x * 256 + b < 256 ^ suc w
digit_more w x b h p = rw (pow-succ' 256 w) (omega arith)

-- a byte behind the others counts 256 times for each of them
pub number_push : (s : List ℕ) (b : ℕ) → number (s ++ b ∷ []) ≡ number s + 256 ^ length s * b
unfolding number
number_push [] b = omega arith
number_push (c ∷ s) b =
    rw (pow-succ' 256 (length s), mul_assoc 256 (256 ^ length s) b) (omega (arith, number_push s b))

-- the turn of a reading from the last byte to the first: of some bytes, one more is read
pub read_more : (left more : List ℕ) (b x : ℕ) → more ≡ left ++ b ∷ [] → number left + 256 ^ length left * (x * 256 + b) ≡ number more + 256 ^ length more * x
read_more left more b x e =
    let n : length more ≡ suc (length left) = ap length e ∙ length-append left (b ∷ []) ∙ omega arith in
    let p = 256 ^ length left in
    let q : p * (x * 256 + b) ≡ p * b + 256 * p * x = mul-add p (x * 256) b ∙ omega (arith, mul_assoc p x 256, mul_comm (p * x) 256, mul_assoc 256 p x) in
    rw (n, pow-succ' 256 (length left), e, number_push left b) (omega arith)

-- no byte is left
pub all_read : (left : List ℕ) (x : ℕ) → length left ≡ 0 → x ≡ number left + 256 ^ length left * x
unfolding number
all_read [] x e = omega arith
all_read (b ∷ left) x e = absurd (omega arith)

-- the turn of a writing: the next byte joins those that are written
pub write_more : (out : List ℕ) (i w x y : ℕ) → i < length out → i < w → take i out ++ bytes_of (w - i) y ≡ bytes_of w x → take (i + 1) (set out i (y % 256)) ++ bytes_of (w - (i + 1)) (y / 256) ≡ bytes_of w x
unfolding bytes_of
write_more out i w x y h k e =
    let n : w - i ≡ suc (w - (i + 1)) = omega arith in
    rw (take_more_set out i (y % 256) h) (append_assoc (take i out) (y % 256 ∷ []) (bytes_of (w - (i + 1)) (y / 256)) ∙ ap (λ m. take i out ++ bytes_of m y) (sym n) ∙ e)

-- nothing is to come
pub all_written : (out : List ℕ) (i w x y : ℕ) → length out ≤ i → w ≤ i → take i out ++ bytes_of (w - i) y ≡ bytes_of w x → out ≡ bytes_of w x
unfolding bytes_of
all_written out i w x y h k e =
    let z : w - i ≡ 0 = omega arith in
    sym (append-nil out) ∙ ap (λ (l : List ℕ). l ++ []) (sym (take_all i out h)) ∙ ap (λ m. take i out ++ bytes_of m y) (sym z) ∙ e

-- the part of a list that is put in its place
pub put_whole : (old : List ℕ) (at w : ℕ) (part new : List ℕ) → length new ≡ w → part ≡ new → put_mid at (at + w - at) old part ≡ written old at new
put_whole old at w part new n e =
    rw (e, n) (ap (λ (l : List ℕ). take at old ++ (new ++ l)) (drop-drop (at + w - at) at old ∙ ap (λ k. drop k old) (let k : at + (at + w - at) ≡ at + w = omega arith in k)))

-- one number more
pub all_bytes_more : (w : ℕ) (ns : List ℕ) (i : ℕ) → i < length ns → all_bytes_of w (take (i + 1) ns) ≡ all_bytes_of w (take i ns) ++ bytes_of w (get_or ns i 0)
unfolding all_bytes_of
all_bytes_more w ns i h =
    rw (take_more ns i 0 h, flat_map-append (bytes_of w) (take i ns) (get_or ns i 0 ∷ [])) (ap (λ (l : List ℕ). flat_map (bytes_of w) (take i ns) ++ l) (append-nil (bytes_of w (get_or ns i 0))))

-- a number written behind the others
pub next_written : (out : List ℕ) (w : ℕ) (ns : List ℕ) (i : ℕ) → i < length ns → w * length ns ≤ length out → written (written out 0 (all_bytes_of w (take i ns))) (w * i) (bytes_of w (get_or ns i 0)) ≡ written out 0 (all_bytes_of w (take (i + 1) ns))
next_written out w ns i h room =
    let front = all_bytes_of w (take i ns) in
    let next = bytes_of w (get_or ns i 0) in
    let n : 0 + length front ≡ w * i = zero-add (length front) ∙ length-all_bytes_of w (take i ns) ∙ ap (λ m. w * m) (length-take-le i ns (omega arith)) in
    let p = mul-le-mul_left {m = suc i} {n = length ns} w h in
    ap (λ k. written (written out 0 front) k next) (sym n)
    ∙ sym (written-append out 0 front next (omega (arith, n, p, mul-suc w i, length-bytes_of w (get_or ns i 0))))
    ∙ ap (λ (l : List ℕ). written out 0 l) (sym (all_bytes_more w ns i h))

pub all_bytes_none : (w : ℕ) → all_bytes_of w [] ≡ []
unfolding all_bytes_of
all_bytes_none w = refl
