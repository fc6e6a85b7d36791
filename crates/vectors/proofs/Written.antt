-- How the other files write bytes and text: a schedule as hexadecimal digits, a printed run with a semicolon at the end of each line.
use Prim.Native.Nat.{ℕ, ◌+◌, ◌-◌, ◌*◌}
use Prim.Native.Char.{code}
use Prim.Native.String.{String, [] as over, ◌∷◌ as ◌then◌}
use mathlib.Core.List.{List, [], ◌∷◌}
use mathlib.Core.Bool.{cond}
use lib.Dec.{ltb, eqb}

-- the value of a hexadecimal digit, 0 to 9 or a to f
abbrev digit : ℕ → ℕ
digit c = cond (ltb c 58) (c - 48) (c - 87)

-- two digits a byte, then what is left
abbrev onto : String → List ℕ → List ℕ
onto over more = more
onto (h then over) more = more
onto (h then (l then s)) more = (16 * digit (code h) + digit (code l)) ∷ onto s more

abbrev pub file_of : List String → List ℕ
file_of [] = []
file_of (s ∷ ss) = onto s (file_of ss)

-- a semicolon is the end of a line
abbrev letter : ℕ → ℕ
letter c = cond (eqb c 59) 10 c

abbrev letters : String → List ℕ → List ℕ
letters over more = more
letters (c then s) more = letter (code c) ∷ letters s more

abbrev pub text_of : List String → List ℕ
text_of [] = []
text_of (s ∷ ss) = letters s (text_of ss)
