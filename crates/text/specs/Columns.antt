-- Text in columns.
use Rattle.std.specs.Prelude.{List, ◌++◌, ℕ, ◌-◌, length, drop, replicate}

-- so many blanks
abbrev pub blanks : ℕ → List ℕ
blanks n = replicate n 32

-- right-aligned in so many columns: blanks, then the text; of a longer text its last characters
unfoldable pub column : ℕ → List ℕ → List ℕ
column width text = drop (length text) (blanks width ++ text)

-- the same of a text that fits its columns: all of it, behind the blanks that are left
abbrev pub whole : ℕ → List ℕ → List ℕ
whole width text = blanks (width - length text) ++ text
