-- The bytes that a state is made of: of a thread, of its frames and of a node (docs/STATE.md). A field that a node's kind has not, and a note that
-- no later step of its thread reads, is 0, so that a state says what the places say of a bench and no more.
use Rattle.std.specs.Prelude.{ℕ, zero, suc, Bool, not, cond, ◌&&◌, ◌||◌, List, [], ◌∷◌, ◌++◌, eqb, ltb, leb, length, replicate, Option, Some, None}
use Rattle.container.specs.Choice.{ite, upd}
use Rattle.container.specs.Container.{below, from}
use Rattle.container.specs.Depths.{Container, blank, find, depth_of}
use Rattle.definitions.specs.Nodes.{Shapes, Entry, is_route}
use Rattle.definitions.specs.Threads.{Frame, Thread}
use Rattle.definitions.specs.Records.{action_number, is_idle}
use Rattle.definitions.specs.Versions.{by}
use Rattle.definitions.specs.Run.{bytes_of}
use Rattle.definitions.specs.declared.Kind.{Kind}
use Rattle.definitions.specs.declared.Kind.TheVariants.{Normal, Route, Main, Neighbour, Range}
use Rattle.definitions.specs.declared.Stage.{Stage}
use Rattle.definitions.specs.declared.Stage.TheVariants.{Preparing, Completing, Aborted, Done}

-- ---- bytes

abbrev pub zeros : ℕ → List ℕ
zeros n = replicate n 0

abbrev pub flag : Bool → ℕ
flag c = cond c 1 0

-- a number or none: 1 and the number, or 0 and 0
abbrev pub link_bytes : Option ℕ → List ℕ
link_bytes None = 0 ∷ 0 ∷ []
link_bytes (Some x) = 1 ∷ x ∷ []

-- the same of what is there only where c is true
unfoldable pub noted : Bool → Option ℕ → List ℕ
noted c l = link_bytes (ite c l None)

-- a word or none: 1 and its eight bytes, or 0 and eight times 0
abbrev pub shared_bytes : Option ℕ → List ℕ
shared_bytes None = zeros 9
shared_bytes (Some c) = 1 ∷ bytes_of 8 c

-- the first n of a list, and 0 where it ends
unfoldable pub padded : ℕ → List ℕ → List ℕ
padded zero l = []
padded (suc n) [] = 0 ∷ padded n []
padded (suc n) (x ∷ l) = x ∷ padded n l

-- f of 0, of 1 and so on, below k
unfoldable pub each : (ℕ → List ℕ) → ℕ → List ℕ
each f zero = []
each f (suc k) = each f k ++ f k

-- ---- which notes a thread has: those that it has written and that a later step may read

abbrev pub spans : ℕ → ℕ → ℕ → Bool
spans a b p = leb a p && leb p b

-- 2, 23, 32: the route reached; 4: the child read
abbrev pub has_route : ℕ → Bool
has_route p = eqb p 2 || (eqb p 4 || (eqb p 23 || eqb p 32))

abbrev pub has_read : ℕ → Bool
has_read p = eqb p 2

-- until it is swapped, at 10 to 13 or at 25, or helped at 15
abbrev pub has_base : ℕ → Bool
has_base p = eqb p 3 || (eqb p 5 || (spans 10 15 p || spans 19 25 p))

-- the rest is a join's: its parent is marked at 30 and cleared at 37; its side is asked last at 34
abbrev pub has_parent : ℕ → Bool
has_parent p = spans 19 37 p

abbrev pub has_side : ℕ → Bool
has_side p = spans 22 34 p

abbrev pub has_found : ℕ → Bool
has_found p = spans 24 29 p

abbrev pub has_neighbour : ℕ → Bool
has_neighbour p = spans 30 35 p

-- of a main that is killed too, or helped
abbrev pub has_main : ℕ → Bool
has_main p = eqb p 16 || spans 26 51 p

abbrev pub has_grandparent : ℕ → Bool
has_grandparent p = spans 33 36 p

abbrev pub has_other : ℕ → Bool
has_other p = eqb p 35

-- 1 for the left child, 2 for the right
abbrev pub side_number : Bool → ℕ
side_number d = cond d 1 2

-- ---- a thread

-- 32 bytes: place, action (0 of an idle thread), station, extra; routes read, 8 for more, side, whether the main is its own; its nodes; n, how many
-- frames
unfoldable pub thread_head : ℕ → Thread → List ℕ
thread_head n th =
    th.place ∷ ite (is_idle th) 0 (action_number th.action) ∷ th.station ∷ (bytes_of 2 th.extra
    ++ ite (has_read th.place) (ite (ltb th.read 8) th.read 8) 0 ∷ ite (has_side th.place) (side_number th.left) 0 ∷ ite (has_main th.place) (flag th.owner) 0
    ∷ (noted (has_route th.place) (Some th.route)
    ++ (noted (has_base th.place) (Some th.base)
    ++ (noted (has_parent th.place) (Some th.parent)
    ++ (noted (has_found th.place) (Some th.found)
    ++ (noted (has_neighbour th.place) (Some th.neighbour)
    ++ (noted (has_main th.place) (Some th.main)
    ++ (noted (has_grandparent th.place) th.grandparent
    ++ (noted (has_other th.place) (Some th.other)
    ++ (bytes_of 1 n ++ zeros 7))))))))))

-- which notes a frame has: p is its thread's place where it is on top, 0 where it waits. One on top waits too where its thread is under 60.
-- It goes on from its backup
abbrev pub has_hand : ℕ → Bool
has_hand p = spans 62 67 p || spans 74 80 p

abbrev pub has_stack : ℕ → Bool
has_stack p = spans 61 80 p

abbrev pub has_backup : ℕ → Bool
has_backup p = ltb p 60 || spans 70 80 p

abbrev pub has_done : ℕ → Bool
has_done p = not (eqb p 82)

abbrev pub kept : Bool → List ℕ → List ℕ
kept c l = ite c l []

-- 196 bytes: ends, store, base in hand, base popped, key noted; whether a base is done, how many numbers stack and backup have; the stations
-- done; the stack and the backup, the top first
unfoldable pub frame_bytes : ℕ → Frame → List ℕ
frame_bytes p f =
    f.lower ∷ f.upper ∷ (link_bytes f.store
    ++ (noted (has_hand p) (Some f.base)
    ++ (noted (eqb p 70) (Some f.popped)
    ++ (noted (eqb p 72) (Some f.key)
    ++ (ite (has_done p) (flag f.begun) 0 ∷ (bytes_of 1 (length (kept (has_stack p) f.stack)) ++ (bytes_of 1 (length (kept (has_backup p) f.backup)) ++ (zeros 3
    ++ (bytes_of 8 (ite (has_done p) f.done 0)
    ++ (padded 86 (kept (has_stack p) f.stack)
    ++ padded 86 (kept (has_backup p) f.backup)))))))))))

-- room for k frames, the top one first; those below it wait
unfoldable pub frames_bytes : ℕ → ℕ → List Frame → List ℕ
frames_bytes zero p fs = []
frames_bytes (suc k) p [] = zeros 196 ++ frames_bytes k 0 []
frames_bytes (suc k) p (f ∷ fs) = frame_bytes p f ++ frames_bytes k 0 fs

-- 816 bytes; version 1 has no frames
unfoldable pub thread_bytes : List ℕ → Thread → List ℕ
thread_bytes file th = thread_head (by file 0 (length th.frames)) th ++ by file (zeros 784) (frames_bytes 4 th.place th.frames)

-- ---- nodes

-- "a route gives its left child the part below its key and its right child the rest": the ranges of the nodes that the tree has from x down,
-- over those in w. They go down with levels left, as in Tree.antt
unfoldable pub reached_below : ℕ → Shapes → ℕ → ℕ → (ℕ → Option ℕ) → ℕ → Option ℕ
reached_below zero n x range w = upd w x (Some range)
reached_below (suc k) n x range w =
    ite (is_route (n x).kind)
    (reached_below k n (n x).right (from (n x).key range) (reached_below k n (n x).left (below (n x).key range) (upd w x (Some range))))
    (upd w x (Some range))

abbrev pub kind_number : Kind → ℕ
kind_number Normal = 0
kind_number Route = 1
kind_number Main = 2
kind_number Neighbour = 3
kind_number Range = 4

-- "a stage (preparing, a node number, aborted or done)"; 0 of a node that is no main
abbrev pub stage_number : Stage → ℕ
stage_number Preparing = 1
stage_number Completing = 2
stage_number Aborted = 3
stage_number Done = 4

-- "A route node has a key, left, right, a valid mark [..] and a join mark"
abbrev pub route_bytes : Kind → Entry → List ℕ
route_bytes Normal e = zeros 6
route_bytes Route e = e.key ∷ e.left ∷ e.right ∷ flag (not e.invalid) ∷ link_bytes e.mark
route_bytes Main e = zeros 6
route_bytes Neighbour e = zeros 6
route_bytes Range e = zeros 6

-- "A base node has a parent (or none) and a container"
abbrev pub base_bytes : Kind → Entry → List ℕ
base_bytes Normal e = link_bytes e.parent ++ bytes_of 8 e.container.set
base_bytes Route e = zeros 10
base_bytes Main e = link_bytes e.parent ++ bytes_of 8 e.container.set
base_bytes Neighbour e = link_bytes e.parent ++ bytes_of 8 e.container.set
base_bytes Range e = link_bytes e.parent ++ bytes_of 8 e.container.set

-- "once its stage is a node number, the neighbour, the grandparent or none, and the other child"; they stay when it is done
abbrev pub agreed_bytes : Stage → Entry → List ℕ
agreed_bytes Preparing e = zeros 8
agreed_bytes Completing e = 1 ∷ e.union ∷ 1 ∷ e.neighbour ∷ (link_bytes e.grandparent ++ 1 ∷ e.other ∷ [])
agreed_bytes Aborted e = zeros 8
agreed_bytes Done e = 1 ∷ e.union ∷ 1 ∷ e.neighbour ∷ (link_bytes e.grandparent ++ 1 ∷ e.other ∷ [])

-- what the other kinds have: a main's stage and what it agreed on; "A neighbour names its main"; a range base's ends and store
abbrev pub own_bytes : Kind → Entry → List ℕ
own_bytes Normal e = zeros 16
own_bytes Route e = zeros 16
own_bytes Main e = stage_number e.stage ∷ 0 ∷ (agreed_bytes e.stage e ++ zeros 6)
own_bytes Neighbour e = zeros 10 ++ 1 ∷ e.main ∷ zeros 4
own_bytes Range e = zeros 12 ++ e.lower ∷ e.upper ∷ 1 ∷ e.store ∷ []

-- the depths of the stations of a container, two bytes each, 0 where it has none; version 1 has no depths
abbrev pub depth_bytes : List ℕ → Container → ℕ → List ℕ
depth_bytes file c s = bytes_of 2 (by file 0 (depth_of (find c s)))

-- the container, which a route has not
abbrev pub holding : Entry → Container
holding e = ite (is_route e.kind) blank e.container

-- 176 bytes: kind, whether it is reachable and its range, what its kind has, depths
unfoldable pub node_bytes : List ℕ → Option ℕ → Entry → List ℕ
node_bytes file range e =
    kind_number e.kind ∷ (shared_bytes range
    ++ (route_bytes e.kind e
    ++ (base_bytes e.kind e
    ++ (own_bytes e.kind e
    ++ (zeros 6
    ++ each (depth_bytes file (holding e)) 64)))))
