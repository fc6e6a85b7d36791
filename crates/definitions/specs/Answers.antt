-- The answers of operations: the number and the printed word of each (01, "A result row is four bytes", "The printed run"; 02, a and k).
use Rattle.std.specs.Prelude.{ℕ, zero, suc, Bool, true, false, List, [], ◌∷◌}
use Rattle.definitions.specs.Nodes.{Nodes}
use Rattle.definitions.specs.declared.Answer.{Answer}
use Rattle.definitions.specs.declared.Answer.TheVariants.{No, Yes, At, Lacking, Blocked, Lost, NeighbourBlocked, StoodDown, Stopped}

abbrev pub no_word : List ℕ
no_word = 110 ∷ 111 ∷ []

abbrev pub yes_word : List ℕ
yes_word = 121 ∷ 101 ∷ 115 ∷ []

-- an answer's number in its row, and the word that the program prints for it: "answer (1 yes, 0 no)"; "2 too few stations for a split
-- or no parent for a join, 3 base not replaceable, 4 a swap lost at places 10 to 13 or 25, or the base gone from its parent there or
-- at 21, 5 neighbour not replaceable, 6 stood down at place 38, 7 joins stopped"; for these "The program still prints no"
abbrev pub rendered : Answer → ℕ × List ℕ
rendered No = (0, no_word)
rendered Yes = (1, yes_word)
rendered (At x) = (1, yes_word)
rendered Lacking = (2, no_word)
rendered Blocked = (3, no_word)
rendered Lost = (4, no_word)
rendered NeighbourBlocked = (5, no_word)
rendered StoodDown = (6, no_word)
rendered Stopped = (7, no_word)

abbrev pub answer_number : Answer → ℕ
answer_number a = (rendered a).0

-- the answer of a number; no row has a number over 7
abbrev pub answer_of : ℕ → Answer
answer_of zero = No
answer_of (suc zero) = Yes
answer_of (suc (suc zero)) = Lacking
answer_of (suc (suc (suc zero))) = Blocked
answer_of (suc (suc (suc (suc zero)))) = Lost
answer_of (suc (suc (suc (suc (suc zero))))) = NeighbourBlocked
answer_of (suc (suc (suc (suc (suc (suc zero)))))) = StoodDown
answer_of (suc (suc (suc (suc (suc (suc (suc _))))))) = Stopped

abbrev pub answer_word : ℕ → List ℕ
answer_word y = (rendered (answer_of y)).1

-- the answer of a lookup, an insert, a remove or a query
abbrev pub said : Bool → Answer
said true = Yes
said false = No

abbrev pub is_yes : Answer → Bool
is_yes No = false
is_yes Yes = true
is_yes (At x) = true
is_yes Lacking = false
is_yes Blocked = false
is_yes Lost = false
is_yes NeighbourBlocked = false
is_yes StoodDown = false
is_yes Stopped = false

-- an answer as a row has it: a lookup's yes without its base, whose depth stands beside it
abbrev pub shown : Answer → Answer
shown No = No
shown Yes = Yes
shown (At x) = Yes
shown Lacking = Lacking
shown Blocked = Blocked
shown Lost = Lost
shown NeighbourBlocked = NeighbourBlocked
shown StoodDown = StoodDown
shown Stopped = Stopped

-- "two of depth (a lookup's find, else 0)": the depth of station s at the base that a lookup ended at
abbrev pub depth_in : Answer → Nodes → ℕ → ℕ
depth_in No n s = 0
depth_in Yes n s = 0
depth_in (At x) n s = (n x).container.depth s
depth_in Lacking n s = 0
depth_in Blocked n s = 0
depth_in Lost n s = 0
depth_in NeighbourBlocked n s = 0
depth_in StoodDown n s = 0
depth_in Stopped n s = 0
