-- What a step sees (definitions' Sight), as a `View` hands it on.
use Rattle.definitions.specs.Bench.{Sight, sight}
use Rattle.nodes.specs.declared.View.{View}
use Rattle.nodes.specs.Table.{table}
use Rattle.nodes.specs.Stores.{stores}

abbrev pub seen : View → Sight
seen v = sight (table v.nodes.now) v.root v.used (stores v.results.now) v.shown v.stop
