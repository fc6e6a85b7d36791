-- What the places 60 to 82 decide (02 b; docs/RANGE.md, "The places", in its words). Nothing shared is read here: Steps.antt reads, once a step.
use Rattle.std.specs.Prelude.{ℕ, ◌+◌, Bool, true, false, cond, List, [], ◌∷◌, eqb, ltb, leb, Option, Some, None}
use Rattle.container.specs.Choice.{ite}
use Rattle.container.specs.Container.{cut}
use Rattle.definitions.specs.Nodes.{Shapes, is_route}
use Rattle.definitions.specs.Bench.{Sight}
use Rattle.definitions.specs.Places.{p15, p60, p61, p71, p72, p73, p74, p76, p81, p82, swap, opening, next, at, at_base, at_frames}
use Rattle.definitions.specs.Threads.{Frame, Thread, Turn, Moves, Finds, Full, NoStore, goes, room}
use Rattle.definitions.specs.Frames.{between, pushed, in_hand, with_stack, noting, asks, tail_of, store_of, is_range, is_of, adding, found_first, back_in, back}
use Rattle.definitions.specs.declared.Node.{Node}
use Rattle.definitions.specs.declared.Action.{Action}
use Rattle.definitions.specs.declared.Action.TheVariants.{Lookup, Insert, Remove, Split, Join, Query}
use Rattle.definitions.specs.declared.Probe.{Probe}
use Rattle.definitions.specs.declared.Probe.TheVariants.{Hit, Next, Miss}
use Rattle.definitions.specs.declared.Effect.TheVariants.{Quiet, Ask, Fill}

-- ---- 60 to 67: the first base

-- 60, 61: x is read and pushed on the stack s. "a route: 61. A base: found first"
unfoldable pub reached_first : Shapes → ℕ → List ℕ → Frame → List Frame → Thread → Turn
reached_first n x s f fs th = ite (is_route (n x).kind) (goes (at_frames p61 (pushed x s f ∷ fs) th)) (found_first f.store (n x) (in_hand x s f) fs th)

-- 62: "No, and a range base whose upper end is not below the frame's: the frame takes ends and store of that base, then 60 (piggyback). Else 15"
abbrev pub riding : Node → Frame → List Frame → Thread → Turn
riding b f fs th = ite (cond (is_range b.kind) (leb f.upper b.upper) false)
    (goes (at_frames p60 (asks b.lower b.upper b.store f ∷ fs) th))
    (goes (at_base p15 f.base th))

-- "a store needed beyond the 64 with 16 after 13"
abbrev pub store_room : ℕ → Turn → Turn
store_room shown o = ite (leb (shown + 1) 64) o NoStore

-- 64 to 67: "the base for a new range base with its container and parent, the frame's ends and a new store"; "success: the frame has that store,
-- the new base is on top in place of the old one, add. Failure: 60"
abbrev pub opened_by : Probe → Node → Sight → Frame → List Frame → Thread → Turn
opened_by (Hit v) b s f fs th = room 1 s.used (store_room s.shown
    (adding (Ask v s.used b.parent f.base f.lower f.upper s.shown true) b.container (asks f.lower f.upper s.shown (in_hand s.used (tail_of f.stack) f)) fs th))
opened_by (Next q) b s f fs th = goes (at (swap opening q) th)
opened_by Miss b s f fs th = goes (at p60 th)

-- ---- 70 to 80: the next base

-- 71, 73: x is read and pushed. "a route: 73. A base: 74"
unfoldable pub reached_next : Shapes → ℕ → Frame → List Frame → Thread → Turn
reached_next n x f fs th = ite (is_route (n x).kind) (goes (at_frames p73 (pushed x f.stack f ∷ fs) th)) (goes (at_frames p74 (in_hand x f.stack f ∷ fs) th))

-- 70: "the left child of the top route": "the base popped: 71. Else the route's key is noted, 72"
abbrev pub left_of : Node → Frame → List Frame → Thread → Turn
left_of r f fs th = ite (eqb r.left f.popped) (goes (at p71 th)) (goes (at_frames p72 (noting r.key f ∷ fs) th))

-- 72: "true, and its key is over the noted one: 71. Else it is popped; nothing left: 81, else 72"; s is the stack below the top
abbrev pub pop_on : List ℕ → Frame → List Frame → Thread → Turn
pop_on [] f fs th = goes (at_frames p81 (with_stack [] f ∷ fs) th)
pop_on (x ∷ s) f fs th = goes (at_frames p72 (with_stack (x ∷ s) f ∷ fs) th)

abbrev pub ascended : Node → Frame → List Frame → Thread → Turn
ascended r f fs th = ite (cond r.invalid false (ltb f.key r.key)) (goes (at p71 th)) (pop_on (tail_of f.stack) f fs th)

-- 74: "set: 82. Unset: a range base of this store: add. Else 76"
abbrev pub met_by : Option ℕ → Node → Frame → List Frame → Thread → Turn
met_by (Some _) b f fs th = goes (at p82 th)
met_by None b f fs th = ite (is_of (store_of f.store) b) (adding Quiet b.container f fs th) (goes (at p76 th))

-- 77 to 80: "the base for a new range base with its container and parent, the frame's ends and store"; "success: the new base is on top in place
-- of the old one, add. Failure: back"
abbrev pub extended_by : Probe → Node → Sight → Frame → List Frame → Thread → Turn
extended_by (Hit v) b s f fs th = room 1 s.used
    (adding (Ask v s.used b.parent f.base f.lower f.upper (store_of f.store) false) b.container (in_hand s.used (tail_of f.stack) f) fs th)
extended_by (Next q) b s f fs th = goes (at (swap next q) th)
extended_by Miss b s f fs th = back Quiet th

-- ---- 81, 82

-- 81: "swaps the store's result from unset to done": "82 either way"
abbrev pub filling : Option ℕ → Frame → Thread → Turn
filling None f th = Moves (at p82 th) (Fill (store_of f.store) f.done)
filling (Some _) f th = goes (at p82 th)

-- 82: "the frame ends. The last frame of a query: it finishes with the result cut to its own ends (141). Else back"
abbrev pub is_query : Action → Bool
is_query Lookup = false
is_query Insert = false
is_query Remove = false
is_query Split = false
is_query Join = false
is_query Query = true

abbrev pub leaving : List Frame → ℕ → Thread → Turn
leaving [] r th = ite (is_query th.action) (Finds (cut r (between th.station th.extra))) (back_in [] Quiet th)
leaving (f ∷ fs) r th = back_in (f ∷ fs) Quiet th

-- no thread comes here before the result is set
abbrev pub read_out : Option ℕ → List Frame → Thread → Turn
read_out None fs th = Full
read_out (Some r) fs th = leaving fs r th
