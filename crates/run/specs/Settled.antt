-- What a step at a place below 60 comes to once what it has decided is carried out: nodes, depths, root, numbers used, its thread's notes, and the
-- job that is left.
use Rattle.std.specs.Prelude.{ℕ, ◌≡◌, List}
use Rattle.definitions.specs.Nodes.{Shapes}
use Rattle.definitions.specs.declared.Effect.{Effect}
use Rattle.definitions.specs.declared.Refusal.TheVariants.{Numbers}
use Rattle.effects.specs.Writes.{effect_of}
use Rattle.effects.specs.Used.{used_after}
use Rattle.machine.specs.Enacted.{Enacts}
use Rattle.machine.specs.Noted.{Noted}
use Rattle.steps.specs.declared.Notes.{Notes}
use Rattle.steps.specs.declared.Note.{Note}
use Rattle.steps.specs.declared.Decision.{Decision}
use Rattle.steps.specs.declared.Decision.TheVariants.{Goes, Answers, NodesOut, Back}
use Rattle.run.specs.declared.Job.{Job}
use Rattle.run.specs.declared.query.Task.{Task}

-- what is left once a step has noted: for a new frame its task, else nothing
abbrev pub left_by : Note → Job
left_by Note.Nothing = Job.Nothing
left_by (Note.Route x) = Job.Nothing
left_by (Note.Base x) = Job.Nothing
left_by (Note.Parent x) = Job.Nothing
left_by (Note.Side d) = Job.Nothing
left_by (Note.Found x) = Job.Nothing
left_by (Note.Neighbour x) = Job.Nothing
left_by (Note.Main x o) = Job.Nothing
left_by (Note.Grandparent g) = Job.Nothing
left_by (Note.Other x) = Job.Nothing
left_by Note.Opened = Job.Task Task.Help

-- the effect e takes the nodes t, the depths l, the root o and u numbers used to t', l', r and u'
pub record Effected (e : Effect) (t : Shapes) (l : List ℕ) (o u : ℕ) (t' : Shapes) (l' : List ℕ) (r u' : ℕ) : Type 0 where
  pub enacts : Enacts t l o u e t' l' r
  pub used : u' ≡ used_after u e

-- the decision d takes them there, and the notes th to v; the job j is left
abbrev pub Settles : Decision → Shapes → List ℕ → ℕ → ℕ → Notes → Shapes → List ℕ → ℕ → ℕ → Notes → Job → Type 0
Settles (Goes e p n) t l o u th t' l' r u' v j = Effected (effect_of e) t l o u t' l' r u' × (Noted th v n p × (j ≡ left_by n))
Settles (Answers e a) t l o u th t' l' r u' v j = Effected (effect_of e) t l o u t' l' r u' × ((v ≡ th) × (j ≡ Job.Row a))
Settles (Back e) t l o u th t' l' r u' v j = Effected (effect_of e) t l o u t' l' r u' × ((v ≡ th) × (j ≡ Job.Task Task.Back))
Settles NodesOut t l o u th t' l' r u' v j = (t' ≡ t) × ((l' ≡ l) × ((r ≡ o) × ((u' ≡ u) × ((v ≡ th) × (j ≡ Job.Task (Task.Refuse Numbers))))))
