-- A choice by a test, and tests joined.
use Rattle.std.specs.Prelude.{Bool, cond, ◌&&◌, ℕ, leb}

-- the first where the test holds, else the second
abbrev pub pick : {A : Type 0} → Bool → A → A → A
pick test a b = cond test a b

-- x stands from low to high, both included
abbrev pub between : ℕ → ℕ → ℕ → Bool
between low high x = leb low x && leb x high
