-- What files of version 3 add, worked out by hand from 02, f and h, beside files of version 2 with the same records, shown of the definitions: the
-- steps at 4, 5 and 19 are own steps, and a join's 7 is a no. One table. Assumes nothing.
use Prim.Native.Nat.{ℕ, zero, suc, ◌+◌}
use mathlib.Core.Path.{◌≡◌, refl, sym, ap₂, ◌∙◌}
use mathlib.Core.List.{List, [], ◌∷◌, ◌++◌, map}
use lib.Count.{ones_in, count_trailing_zeros}
use Rattle.container.specs.Choice.{ite}
use Rattle.container.specs.Container.{has, insert, remove, union, cut, below, from, size, least, drop_least, upper_half, lower_half, split_key}
use Rattle.container.specs.Depths.{put, take_out, merge, within as inside, lower, upper}
use Rattle.definitions.specs.Nodes.{check, replaceable}
use Rattle.definitions.specs.Frames.{between, reaches, adding, back}
use Rattle.definitions.specs.Steps.{reached, onward, followed, blocked, lacks, cleared, lost, probe, replaced, beside, reached_first, reached_next, step}
use Rattle.definitions.specs.Records.{taken as carried_out, stepped, started, asked, record_step}
use Rattle.definitions.specs.Schedule.{count_of, record_at, file_refusal}
use Rattle.definitions.specs.Run.{run_refusal}
use Rattle.season.specs.Tally.{join, sum, taken, busy_with, left_busy, refused_once, file_tally, listed, laid}
use Rattle.definitions.proofs.Cases.{Lookup, Insert, Split, Join}
use Rattle.definitions.proofs.DeepCases.{steps as steps', op, deep_run}
use Rattle.season.proofs.Cases.{deep, stopping, Entry, filled, row, left_over, Single, ◌⊢>◌}
use Rattle.season.proofs.Quick.{quick_tally, quick_tally_laid}

-- eight routes: t0 inserts 0 and 1 and splits, then inserts k and splits its base for k from 2 to 8, each in k + 4 steps; so inserts take 69
-- steps and splits 66, 12 at most, in either version
abbrev chain : ℕ → List ℕ
chain zero = op 0 Insert 0 3 ++ op 0 Insert 1 3 ++ op 0 Split 1 3
chain (suc k) = chain k ++ op 0 Insert (2 + k) (6 + k) ++ op 0 Split (2 + k) (6 + k)

abbrev chain_rows : List Entry
chain_rows = row 2 9 0 69 12 ++ row 4 8 0 66 12

-- t0 inserts two stations and splits
abbrev deep_rows : List Entry
deep_rows = row 2 2 0 6 3 ++ row 4 1 0 3 3

abbrev singles : List Single
singles =
    -- a join takes 21 steps in version 2, in version 3 one more, at 19
    (deep (deep_run ++ op 0 Join 3 21) ⊢> deep_rows ++ row 5 1 0 21 21)
    ∷ (stopping (deep_run ++ op 0 Join 3 22) ⊢> deep_rows ++ row 5 1 0 22 22)
    ∷ (stopping (deep_run ++ op 0 Join 3 21) ⊢> deep_rows ++ left_over 5)
    -- below eight routes a lookup takes nine steps, in version 3 two more, at 4 and 5; a join that meets it between them has 7
    ∷ (deep (chain 7 ++ op 1 Lookup 8 9) ⊢> chain_rows ++ row 1 1 0 9 9)
    ∷ (stopping (chain 7 ++ op 1 Lookup 8 10 ++ op 0 Join 3 7 ++ steps' 1 1) ⊢> chain_rows ++ row 1 1 0 11 11 ++ row 5 0 1 7 7)
    ∷ []

-- computed by the quick form, which is the definition
computed : map (λ (s : Single). quick_tally s.asks.file s.asks.room) singles ≡ map (λ (s : Single). filled s.adds) singles
unfolding refused_once busy_with left_busy sum join taken listed run_refusal count_of record_at file_refusal check replaceable between reaches adding back
    reached_first reached_next carried_out stepped started asked record_step reached onward followed blocked lacks cleared lost probe replaced beside step ite has
    insert remove union cut below from size least drop_least upper_half lower_half split_key put take_out merge inside lower upper ones_in count_trailing_zeros
computed = refl

each : (l : List Single) → map (λ (s : Single). laid (file_tally s.asks.file s.asks.room)) l ≡ map (λ (s : Single). quick_tally s.asks.file s.asks.room) l
each [] = refl
each (s ∷ l) = ap₂ (λ (a : List ℕ) (b : List (List ℕ)). a ∷ b) (sym (quick_tally_laid s.asks.file s.asks.room)) (each l)

stop_tallies : map (λ (s : Single). laid (file_tally s.asks.file s.asks.room)) singles ≡ map (λ (s : Single). filled s.adds) singles
stop_tallies = each singles ∙ computed
