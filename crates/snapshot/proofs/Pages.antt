-- How the parts of several lists stand together. Assumes nothing.
use mathlib.Core.Path.{◌≡◌, ap, ◌∙◌}
use mathlib.Core.List.{List, ◌++◌, append_assoc}
use Prim.Native.Nat.{ℕ}

-- what comes after three lists, and after four
pub three_then : (a b c r : List ℕ) → (a ++ (b ++ c)) ++ r ≡ a ++ (b ++ (c ++ r))
three_then a b c r = append_assoc a (b ++ c) r ∙ ap (λ (x : List ℕ). a ++ x) (append_assoc b c r)

pub four_then : (a b c d r : List ℕ) → (a ++ (b ++ (c ++ d))) ++ r ≡ a ++ (b ++ (c ++ (d ++ r)))
four_then a b c d r = append_assoc a (b ++ (c ++ d)) r ∙ ap (λ (x : List ℕ). a ++ x) (three_then b c d r)
