-- How an array holds the results of the stores of range queries (02, b). One past its end is unset.
use Rattle.std.specs.Prelude.{ℕ, List, get_or, Option, None}
use Rattle.definitions.specs.Nodes.{Stores}

unfoldable pub stores : List (Option ℕ) → Stores
stores results k = get_or results k None
