-- Fields to bytes and back: one law for every list of widths.
use mathlib.Core.Path.{◌≡◌, refl, sym, ap, ◌∙◌}
use mathlib.Core.Bool.{Bool, true}
use mathlib.Core.List.{List, [], ◌∷◌, ◌++◌, append_assoc}
use Prim.Native.Nat.{ℕ, zero, suc, min, ◌+◌, ◌^◌, ◌≤◌, ◌<◌}
use native.Mathlib.Numerals.{add-one}
use native.Mathlib.Nat.{le_of_suc-le-suc, not-suc-le-zero}
use native.Mathlib.Omega.{arith}
use borrow.Author.Tests.{ltb-true}
use lib.Dec.{ltb}
use lib.ListN.{length, get_or, set, take, drop, take-append-drop, length-append, length-drop}
use lib.Seq.{drop-cons, take-suc, take-suc-set, take_at, drop_at, take-add, take-append-le, drop-append-le, length-take-le}
use Rattle.std.specs.List.{list_all}
use Rattle.std.proofs.lemmas.Bool.{and_parts}
use Rattle.std.proofs.lemmas.List.{take_min, drop_min}
use Rattle.basis.specs.Choice.{between}
use Rattle.basis.specs.Numbers.{Bytes, number, bytes_of}
use Rattle.basis.specs.Sums.{sum}
use Rattle.basis.proofs.Choice.{between_true}
use Rattle.basis.proofs.Sums.{sum-cons}
use Rattle.basis.proofs.Numbers.{length-bytes_of, number-bytes_of, bytes_of-number, bytes_take, bytes_drop}
use Rattle.table.specs.Fields.{encode, decode, within_all}
use Rattle.table.specs.Records.{widths_of}
use Rattle.table.specs.declared.columns.Column.{Column}

-- each greatest value fits its width
abbrev pub fit_all : List Column → Bool
fit_all columns = list_all (λ (f : Column). ltb f.greatest (256 ^ f.width)) columns

pub length-encode : (ws vs : List ℕ) → length vs ≡ length ws → length (encode ws vs) ≡ sum ws
unfolding encode
length-encode [] vs h = refl
length-encode (w ∷ ws) [] h = absurd (omega arith)
length-encode (w ∷ ws) (v ∷ vs) h =
    length-append (bytes_of w v) (encode ws vs)
    ∙ omega (arith, sum-cons w ws, length-bytes_of w v, length-encode ws vs (omega arith))

pub length-decode : (ws s : List ℕ) → length (decode ws s) ≡ length ws
unfolding decode
length-decode [] s = refl
length-decode (w ∷ ws) s = ap suc (length-decode ws (drop w s))

-- values in their ranges, written and read, are what they were, whatever stands behind
pub decode-encode : (cs : List Column) (vs rest : List ℕ) → length vs ≡ length cs → fit_all cs ≡ true → within_all cs vs ≡ true → decode (widths_of cs) (encode (widths_of cs) vs ++ rest) ≡ vs
unfolding encode decode
decode-encode [] [] rest h f r = refl
decode-encode [] (v ∷ vs) rest h f r = absurd (omega arith)
decode-encode (c ∷ cs) [] rest h f r = absurd (omega arith)
decode-encode (c ∷ cs) (v ∷ vs) rest h f r =
    let fits = and_parts (ltb c.greatest (256 ^ c.width)) (fit_all cs) f in
    let holds = and_parts (between c.least c.greatest v) (within_all cs vs) r in
    let w : ℕ = c.width in
    let ws : List ℕ = widths_of cs in
    let b : v < 256 ^ c.width = omega (arith, ltb-true c.greatest (256 ^ c.width) fits.0, between_true c.least c.greatest v holds.0) in
    let e : length (bytes_of w v) ≡ w = length-bytes_of w v in
    rw (append_assoc (bytes_of w v) (encode ws vs) rest, take_at (bytes_of w v) (encode ws vs ++ rest) w e, drop_at (bytes_of w v) (encode ws vs ++ rest) w e, number-bytes_of w v b, decode-encode cs vs rest (omega arith) fits.1 holds.1)

-- values in their ranges, one by one
pub within_at : (cs : List Column) (vs : List ℕ) (none : Column) → within_all cs vs ≡ true → (i : ℕ) → i < length cs → i < length vs → ((get_or cs i none).least ≤ get_or vs i 0) × (get_or vs i 0 ≤ (get_or cs i none).greatest)
within_at [] vs none e i p q = absurd (not-suc-le-zero p)
within_at (c ∷ cs) [] none e i p q = absurd (not-suc-le-zero q)
within_at (c ∷ cs) (v ∷ vs) none e zero p q = between_true c.least c.greatest v (and_parts (between c.least c.greatest v) (within_all cs vs) e).0
within_at (c ∷ cs) (v ∷ vs) none e (suc i) p q =
    within_at cs vs none (and_parts (between c.least c.greatest v) (within_all cs vs) e).1 i (le_of_suc-le-suc p) (le_of_suc-le-suc q)

-- bytes, read and written, are what they were
pub encode-decode : (ws s : List ℕ) → Bytes s → sum ws ≤ length s → encode ws (decode ws s) ≡ take (sum ws) s
unfolding encode decode
encode-decode [] s h k = refl
encode-decode (w ∷ ws) s h k =
    let c = sum-cons w ws in
    let p : w ≤ length s = omega arith in
    let q : sum ws ≤ length (drop w s) = omega (arith, length-drop w s) in
    let e : bytes_of w (number (take w s)) ≡ take w s =
    ap (λ n. bytes_of n (number (take w s))) (sym (length-take-le w s p)) ∙ bytes_of-number (take w s) (bytes_take w s h) in
    rw (c, e, encode-decode ws (drop w s) (bytes_drop w s h) q) (sym (take-add w (sum ws) s))

-- what stands behind the fields is not read
pub decode-append : (ws s more : List ℕ) → sum ws ≤ length s → decode ws (s ++ more) ≡ decode ws s
unfolding decode
decode-append [] s more k = refl
decode-append (w ∷ ws) s more k =
    let c = sum-cons w ws in
    let p : w ≤ length s = omega arith in
    let q : sum ws ≤ length (drop w s) = omega (arith, length-drop w s) in
    rw (take-append-le w s more p, drop-append-le w s more p, decode-append ws (drop w s) more q)

-- the fields of a part of the bytes that holds them are those of the bytes
pub decode_part : (ws s : List ℕ) (n : ℕ) → sum ws ≤ length (take n s) → decode ws (take n s) ≡ decode ws s
decode_part ws s n h = sym (decode-append ws (take n s) (drop n s) h) ∙ ap (decode ws) (take-append-drop n s)

-- one turn of a loop that decodes: the next value joins those that are there, and its bytes leave the rest
pub decode_turn : (ws s values all : List ℕ) (i n v : ℕ) → i < length ws → i < length values → length all ≡ length ws → take i values ≡ take i all → decode (drop i ws) s ≡ drop i all → n ≡ min (get_or ws i 0) (length s) → v ≡ number (take n s) → (take (i + 1) (set values i v) ≡ take (i + 1) all) × (decode (drop (i + 1) ws) (drop n s) ≡ drop (i + 1) all)
unfolding decode
decode_turn ws s values all i n v h k l a b en ev =
    let w : ℕ = get_or ws i 0 in
    let t : take n s ≡ take w s = ap (λ m. take m s) en ∙ take_min w s in
    let d : drop n s ≡ drop w s = ap (λ m. drop m s) en ∙ drop_min w s in
    let e : number (take w s) ∷ decode (drop (suc i) ws) (drop w s) ≡ get_or all i 0 ∷ drop (suc i) all =
    ap (λ (x : List ℕ). decode x s) (sym (drop-cons ws i 0 h)) ∙ b ∙ drop-cons all i 0 (omega arith) in
    let first : v ≡ get_or all i 0 = ev ∙ ap number t ∙ cc e in
    let others : decode (drop (suc i) ws) (drop w s) ≡ drop (suc i) all = cc e in
    (rw (add-one i, take-suc-set values i v k, take-suc all i 0 (omega arith), a, first) refl, rw (add-one i, d) others)
