-- `over_spliced` meets its contract.
use mathlib.Core.Path.{◌∙◌}
use Rattle.green.proofs.Answering.{count_node}
use Rattle.edits.proofs.Measuring.{front_range, new_room, back_range, over_parts}
use Rattle.edits.proofs.spliced.over_spliced.Goals as goal

pub plus_children-front-requires : goal.plus_children-front-requires
plus_children-front-requires c = front_range c.requires.splices.0 c.args.new.now c.requires.len_bound c.childless-none.ensures.1

pub plus_numbers-middle-requires : goal.plus_numbers-middle-requires
plus_numbers-middle-requires c = record { all_below = c.requires.splices.1; room_for = new_room c.requires.splices.0 c.args.new.now c.requires.len_bound c.childless-none.ensures.1 c.plus_children-front.ensures.0 }

pub plus_children-requires : goal.plus_children-requires
plus_children-requires c = back_range c.requires.splices.0 c.args.new.now c.requires.len_bound c.childless-none.ensures.1 c.plus_children-front.ensures.0 (c.count_of-count.ensures ∙ count_node c.requires.splices.0.known c.requires.splices.0.a_node) c.plus_numbers-middle.ensures.0

pub returns : goal.returns
returns c = over_parts c.requires.splices.0 c.args.new.now (c.count_of-count.ensures ∙ count_node c.requires.splices.0.known c.requires.splices.0.a_node) c.childless-none.ensures.0 c.plus_children-front.ensures.1 c.plus_numbers-middle.ensures.1 c.plus_children.ensures.1
