use Rattle.ordered_map.proofs.Served.{start_sound, start_empty}
use Rattle.ordered_map.proofs.map.OrderedMap.new.Goals as goal

pub invariant_of-result : goal.invariant_of-result
invariant_of-result g c =
    record { sound = start_sound g.K.Key.cmp c.args.nodes.now c.room_in-room.ensures c.chain-free.new.nodes c.chain-free.result c.chain-free.ensures.1 c.chain-free.ensures.0 }

pub returns-clause-empty : goal.returns-clause-empty
returns-clause-empty g c =
    start_empty g.K.Key.cmp c.args.nodes.now c.room_in-room.ensures c.chain-free.new.nodes c.chain-free.result c.chain-free.ensures.1 c.chain-free.ensures.0
