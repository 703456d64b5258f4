-- The fields of a record one after the other, low byte first ("Journal records").
use Rattle.std.specs.Prelude.{Bool, List, [], ◌∷◌, ◌++◌, ℕ, take, drop}
use Rattle.std.specs.List.{list_all, zip}
use Rattle.basis.specs.Choice.{between}
use Rattle.basis.specs.Numbers.{number, bytes_of}
use Rattle.table.specs.declared.columns.Column.{Column}

-- the bytes of values in their widths
unfoldable pub encode : List ℕ → List ℕ → List ℕ
encode [] vs = []
encode (w ∷ ws) [] = []
encode (w ∷ ws) (v ∷ vs) = bytes_of w v ++ encode ws vs

-- the values that bytes hold in these widths
unfoldable pub decode : List ℕ → List ℕ → List ℕ
decode [] s = []
decode (w ∷ ws) s = number (take w s) ∷ decode ws (drop w s)

-- each value stands from the least to the greatest of its column
abbrev pub within_all : List Column → List ℕ → Bool
within_all columns vs = list_all (λ (f : Column × ℕ). between f.0.least f.0.greatest f.1) (zip columns vs)
