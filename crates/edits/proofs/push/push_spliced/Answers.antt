-- `push_spliced` meets its contract.
use native.Mathlib.Omega.{arith}
use mathlib.Core.Path.{ap}
use Rattle.green.specs.Store.{Store}
use Rattle.green_new.proofs.Nodes.{node_records, node_counts}
use Rattle.edits.proofs.Pushing.{range_fits, count_there, places, splice_pushed}
use Rattle.edits.proofs.push.push_spliced.Goals as goal

pub overflow_sub-count-2 : goal.overflow_sub-count-2
overflow_sub-count-2 c = range_fits c.requires (rw c.read-read.ensures at c.count_of.ensures)

pub overflow_add-count : goal.overflow_add-count
overflow_add-count c = omega (arith, count_there c.requires (rw c.read-read.ensures at c.count_of.ensures), node_counts c.requires.ready)

pub put_spliced-requires : goal.put_spliced-requires
put_spliced-requires c = places c.requires (rw c.read-read.ensures at c.count_of.ensures)

pub put_record-requires : goal.put_record-requires
put_record-requires c = rw (ap (λ (s : Store). s.records) c.put_spliced.ensures.put) (node_records c.requires.ready)

pub overflow_add-store : goal.overflow_add-store
overflow_add-store c = omega (arith, node_counts c.requires.ready)

pub overflow_add-store-2 : goal.overflow_add-store-2
overflow_add-store-2 c = omega (arith, node_counts c.requires.ready, count_there c.requires (rw c.read-read.ensures at c.count_of.ensures))

pub returns-clause-pushed : goal.returns-clause-pushed
returns-clause-pushed c = splice_pushed c.requires (rw c.read-read.ensures at c.count_of.ensures) (rw c.read-read.ensures at c.kind_of-kind.ensures) c.put_spliced.ensures.put c.put_record.ensures
