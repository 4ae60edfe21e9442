-- `push_node` meets its contract.
use native.Mathlib.Omega.{arith}
use Rattle.green_new.proofs.Nodes.{places_fit, node_records, node_counts, node_pushed}
use Rattle.green_new.proofs.node.push_node.Goals as goal

pub put_children-requires : goal.put_children-requires
put_children-requires c = places_fit c.requires

pub put_record-requires : goal.put_record-requires
put_record-requires c = node_records c.requires

pub overflow_add-store : goal.overflow_add-store
overflow_add-store c = omega (arith, node_counts c.requires)

pub overflow_add-store-2 : goal.overflow_add-store-2
overflow_add-store-2 c = omega (arith, node_counts c.requires)

pub returns-clause-pushes : goal.returns-clause-pushes
returns-clause-pushes c = node_pushed c.requires _ _ c.put_record.ensures c.put_children.ensures.children_after (omega arith)
