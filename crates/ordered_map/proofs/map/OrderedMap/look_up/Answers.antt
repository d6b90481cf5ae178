use Rattle.ordered_map.proofs.Lookups.{sound_steps}
use Rattle.ordered_map.proofs.Served.{part_served, part_headed, count_low}
use Rattle.ordered_map.proofs.map.OrderedMap.look_up.Goals as goal

pub seek-requires : goal.seek-requires
seek-requires g c = (_, (part_headed c.args.self.now.sound c.room_in-room.ensures).0)

pub returns-clause-value : goal.returns-clause-value
returns-clause-value g c = rw (← part_served c.args.self.now.nodes.now c.room_in-room.ensures) c.seek.ensures.value

pub returns-clause-count : goal.returns-clause-count
returns-clause-count g c = rw (← part_served c.args.self.now.nodes.now c.room_in-room.ensures) c.seek.ensures.count

pub returns-clause-bound : goal.returns-clause-bound
returns-clause-bound g c =
    λ h l. rw (c.seek.ensures.count, part_served c.args.self.now.nodes.now c.room_in-room.ensures) (count_low c.args.self.now.sound c.args.key.now h l)

pub returns-clause-most : goal.returns-clause-most
returns-clause-most g c = rw c.seek.ensures.count (sound_steps (part_headed c.args.self.now.sound c.room_in-room.ensures).0 c.args.key.now)
