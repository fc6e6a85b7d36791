-- Containers with depths (02, request a: "Each stored station gets a depth [..] in every base's container"): the stations as a set, and a
-- depth for each. What a container says of a station is `find`; the depth kept for a station that is not in the set is of no account.
use Rattle.std.specs.Prelude.{ℕ, Bool, true, false, ltb}
use Rattle.container.specs.Choice.{ite, upd}
use Rattle.container.specs.Container.{has, insert, remove, union, cut, upper_half, lower_half}

-- a station is not there, or is there at a depth
pub data Found : Type 0 where
  absent : Found
  deep : ℕ → Found

abbrev pub is_in : Found → Bool
is_in absent = false
is_in (deep d) = true

-- the depth found, 0 where there is none
abbrev pub depth_of : Found → ℕ
depth_of absent = 0
depth_of (deep d) = d

-- the first, or where it is absent the second
abbrev pub or_else : Found → Found → Found
or_else absent g = g
or_else (deep d) g = deep d

pub record Container : Type 0 where
  pub set : ℕ
  pub depth : ℕ → ℕ

abbrev pub container : ℕ → (ℕ → ℕ) → Container
container c d = record { set = c; depth = d }

abbrev pub blank : Container
blank = container 0 (λ _. 0)

unfoldable pub find : Container → ℕ → Found
find c s = ite (has c.set s) (deep (c.depth s)) absent

-- station s put in at depth d, "present or not", and taken out
unfoldable pub put : Container → ℕ → ℕ → Container
put c s d = container (insert c.set s) (ite (ltb s 64) (upd c.depth s d) c.depth)

unfoldable pub take_out : Container → ℕ → Container
take_out c s = container (remove c.set s) c.depth

-- the stations of both, each at its depth
unfoldable pub merge : Container → Container → Container
merge a b = container (union a.set b.set) (λ s. ite (has a.set s) (a.depth s) (b.depth s))

-- cut to a range of stations
unfoldable pub within : ℕ → Container → Container
within range c = container (cut c.set range) c.depth

-- the two halves of a split
unfoldable pub lower : Container → Container
lower c = container (lower_half c.set) c.depth

unfoldable pub upper : Container → Container
upper c = container (upper_half c.set) c.depth
