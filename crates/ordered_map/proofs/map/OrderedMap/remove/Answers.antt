use Rattle.ordered_map.proofs.Served.{part_headed, taken_sound, taken_cases, absent_cases}
use Rattle.ordered_map.proofs.map.OrderedMap.remove.Goals as goal

pub take_out-requires : goal.take_out-requires
take_out-requires g c = part_headed c.args.self.now.sound c.room_in-room.ensures

pub invariant_of-self : goal.invariant_of-self
invariant_of-self g c =
    record { sound = taken_sound g.K.Key.lawful c.args.self.now.sound c.room_in-room.ensures c.args.key.now c.in-Some.ensures }

pub returns-in-Some-clause-cases : goal.returns-in-Some-clause-cases
returns-in-Some-clause-cases g c =
    taken_cases g.K.Key.lawful c.args.self.now.sound c.room_in-room.ensures c.args.key.now c.in-Some.ensures

pub returns-in-None-clause-cases : goal.returns-in-None-clause-cases
returns-in-None-clause-cases g c =
    absent_cases g.K.Key.lawful c.args.self.now.sound c.room_in-room.ensures c.args.key.now c.in-None.ensures
