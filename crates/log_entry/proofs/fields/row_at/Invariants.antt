use Rattle.std.proofs.Common.{◌≡◌, length}
use Rattle.std.specs.List.{flat_map, AllByRecursion}
use Rattle.log_entry.specs.Reading.{Stands}
use Rattle.log_entry.proofs.fields.row_at.Given as goal

abbrev pub invariant-loop : goal.invariant-loop
invariant-loop g l = record {
  count : length l.values ≡ l.counter;
  each : AllByRecursion g.F.Field.is l.values;
  there : Stands (flat_map g.F.Field.form l.values) l.bytes l.start l.at;
}
