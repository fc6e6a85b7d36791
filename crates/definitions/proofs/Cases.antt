-- What a case of a table is: a file, the lengths of a row buffer and of a text buffer, and all that Run and List hand back for it;
-- and a quicker form of what the definitions say of it.
use Prim.Native.Nat.{ℕ, ◌+◌, ◌-◌, ◌^◌}
use Prim.Native.Char.{code}
use Prim.Native.String.{String, [] as over, ◌∷◌ as ◌then◌}
use mathlib.Core.Path.{◌≡◌, sym, refl, ap₂, ◌∙◌}
use mathlib.Core.List.{List, [], ◌∷◌, ◌++◌, map}
use lib.Dec.{eqb}
use lib.ListN.{length, replicate}
use Rattle.container.specs.Choice.{ite}
use Rattle.definitions.specs.Run.{Progress, ended, refused_report, overlay, run_refusal, run_report, run_buffer}
use Rattle.definitions.specs.Listing.{list_refusal, list_report, list_buffer}
use Rattle.definitions.specs.declared.Report.{Report}
use Rattle.definitions.specs.declared.Listed.{Listed}
use Rattle.definitions.proofs.Quick.{forward, forward_ended, quick_set, quick_set_set, quick_stored, quick_stored_stored, quick_listing, quick_listing_listing}

-- "Actions: 0 step, 1 lookup, 2 insert, 3 remove, 4 split, 5 join"
abbrev pub Lookup : ℕ
Lookup = 1

abbrev pub Insert : ℕ
Insert = 2

abbrev pub Remove : ℕ
Remove = 3

abbrev pub Split : ℕ
Split = 4

abbrev pub Join : ℕ
Join = 5

-- ---- what is handed back

-- refusal, records, rows, set, stored, used
abbrev pub report : ℕ → ℕ → ℕ → ℕ → ℕ → ℕ → Report
report k d n c h u = record { refusal = k; records = d; rows = n; set = c; stored = h; used = u }

-- a set's word
abbrev pub word : List ℕ → ℕ
word [] = 0
word (s ∷ ss) = 2 ^ s + word ss

abbrev pub bytes : String → List ℕ
bytes over = []
bytes (c then s) = code c ∷ bytes s

-- lines of text, "each ended by a newline"
abbrev pub lines : List String → List ℕ
lines [] = []
lines (l ∷ ls) = bytes l ++ 10 ∷ lines ls

-- what each byte of a buffer is before the run: no row or text holds it, so that untouched bytes show
abbrev pub untouched : ℕ
untouched = 170

-- a buffer of n bytes with these written at its start
abbrev pub holding : List ℕ → ℕ → List ℕ
holding written n = written ++ replicate (n - length written) untouched

pub record Case : Type 0 where
  pub file : List ℕ
  -- the row buffer's length, and what Run hands back
  pub buffer : ℕ
  pub gives : Report
  pub rows : List ℕ
  -- the text buffer's length, the refusal that List gives on it, and its tree and set lines
  pub text : ℕ
  pub refusal : ℕ
  pub lists : List String

pub record Outcome : Type 0 where
  pub report : Report
  pub row_buffer : List ℕ
  pub listed : Listed
  pub text_buffer : List ℕ

-- by the definitions
abbrev pub outcome : Case → Outcome
outcome c = record {
  report = run_report c.file c.buffer;
  row_buffer = run_buffer c.file (replicate c.buffer untouched);
  listed = list_report c.file c.text;
  text_buffer = list_buffer c.file (replicate c.text untouched);
}

-- by the papers
abbrev pub promised : Case → Outcome
promised c = record {
  report = c.gives;
  row_buffer = holding c.rows c.buffer;
  listed = record { refusal = c.refusal; length = length (lines c.lists) };
  text_buffer = holding (lines c.lists) c.text;
}

-- an empty tree
abbrev pub nothing : List String
nothing = "0 normal -" ∷ "set -" ∷ []

-- ---- the same, quicker

-- the same outcome where a run ends at p, the tree's set, the stored count and the listing being given
abbrev pub outcome_at : Case → Progress → ℕ → ℕ → List ℕ → Outcome
outcome_at c p set held text = record {
  report = ite (eqb (run_refusal c.file c.buffer) 0) (report p.refusal p.done p.finished set held p.bench.store.used) (refused_report (run_refusal c.file c.buffer));
  row_buffer = ite (eqb (run_refusal c.file (length (replicate c.buffer untouched))) 0) (overlay p.rows (replicate c.buffer untouched)) (replicate c.buffer untouched);
  listed = ite (eqb (list_refusal c.file c.text) 0) (record { refusal = p.refusal; length = length text }) (record { refusal = list_refusal c.file c.text; length = 0 });
  text_buffer = ite (eqb (list_refusal c.file (length (replicate c.text untouched))) 0) (overlay text (replicate c.text untouched)) (replicate c.text untouched);
}

abbrev pub quick : Case → Outcome
quick c = forward (λ p. outcome_at c p (quick_set p.bench) (quick_stored p.bench) (quick_listing c.file p.bench)) c.file

quick_outcome : (c : Case) → quick c ≡ outcome c
unfolding run_report run_buffer list_report list_buffer
quick_outcome c =
    forward_ended (λ p. outcome_at c p (quick_set p.bench) (quick_stored p.bench) (quick_listing c.file p.bench)) c.file
    ∙ (λ i. outcome_at c (ended c.file) (quick_set_set (ended c.file).bench i) (quick_stored_stored (ended c.file).bench i) (quick_listing_listing c.file (ended c.file).bench i))

pub map_quick : (cs : List Case) → map outcome cs ≡ map quick cs
map_quick [] = refl
map_quick (c ∷ cs) = ap₂ {C = List Outcome} (λ o os. o ∷ os) (sym (quick_outcome c)) (map_quick cs)
