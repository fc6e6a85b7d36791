-- The bytes of a thread and of a frame in the parts in which the code writes them, one after another.
use Rattle.std.specs.Prelude.{ℕ, Bool, eqb, List, [], ◌∷◌, ◌++◌, ltb, Some}
use Rattle.container.specs.Choice.{ite}
use Rattle.definitions.specs.Threads.{Frame, Thread}
use Rattle.definitions.specs.Records.{action_number, is_idle}
use Rattle.definitions.specs.Run.{bytes_of}
use Rattle.snapshot.specs.Layout.{zeros, flag, noted, side_number, frame_bytes}
use Rattle.snapshot.specs.Layout.{has_route, has_read, has_base, has_parent, has_side, has_found, has_neighbour, has_main, has_grandparent, has_other, has_done, has_hand, has_stack, has_backup}
use Rattle.snapshot.specs.declared.places.Field.{Field}
use Rattle.snapshot.specs.declared.places.Field.TheVariants.{Route, Read, Base, Parent, Side, Found, Neighbour, Main, Grandparent, Other, Hand, Popped, Key, Stack, Backup, Done}

-- ---- a thread's first 32 bytes

-- its operation, with the number of its action
abbrev pub number_of : Thread → ℕ
number_of th = ite (is_idle th) 0 (action_number th.action)

abbrev pub operation : Thread → List ℕ
operation th = th.place ∷ number_of th ∷ th.station ∷ bytes_of 2 th.extra

-- routes read, side, whether the main is its own
abbrev pub read_of : Thread → ℕ
read_of th = ite (has_read th.place) (ite (ltb th.read 8) th.read 8) 0

abbrev pub side_of : Thread → ℕ
side_of th = ite (has_side th.place) (side_number th.left) 0

abbrev pub own_of : Thread → ℕ
own_of th = ite (has_main th.place) (flag th.owner) 0

abbrev pub flags : Thread → List ℕ
flags th = read_of th ∷ side_of th ∷ own_of th ∷ []

-- its nodes: until a join has found its neighbour, and after
abbrev pub early : Thread → List ℕ
early th =
    noted (has_route th.place) (Some th.route)
    ++ (noted (has_base th.place) (Some th.base)
    ++ (noted (has_parent th.place) (Some th.parent)
    ++ noted (has_found th.place) (Some th.found)))

abbrev pub late : Thread → List ℕ
late th =
    noted (has_neighbour th.place) (Some th.neighbour)
    ++ (noted (has_main th.place) (Some th.main)
    ++ (noted (has_grandparent th.place) th.grandparent
    ++ noted (has_other th.place) (Some th.other)))

-- ---- a frame; p is its thread's place, or 0

-- the frame on top, or the room for it
abbrev pub top_bytes : ℕ → List Frame → List ℕ
top_bytes p [] = zeros 196
top_bytes p (f ∷ fs) = frame_bytes p f

-- ---- which notes there are at a place

abbrev pub is_at : Field → ℕ → Bool
is_at Route p = has_route p
is_at Read p = has_read p
is_at Base p = has_base p
is_at Parent p = has_parent p
is_at Side p = has_side p
is_at Found p = has_found p
is_at Neighbour p = has_neighbour p
is_at Main p = has_main p
is_at Grandparent p = has_grandparent p
is_at Other p = has_other p
is_at Hand p = has_hand p
is_at Popped p = eqb p 70
is_at Key p = eqb p 72
is_at Stack p = has_stack p
is_at Backup p = has_backup p
is_at Done p = has_done p
