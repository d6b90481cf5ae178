use Rattle.ordered_map.proofs.Served.{part_headed, entered_sound, entered_cases, refused_cases}
use Rattle.ordered_map.proofs.map.OrderedMap.enter.Goals as goal

pub enter-requires : goal.enter-requires
enter-requires g c = part_headed c.args.self.now.sound c.room_in-room.ensures

pub invariant_of-self : goal.invariant_of-self
invariant_of-self g c =
    record { sound = entered_sound g.K.Key.lawful c.args.self.now.sound c.room_in-room.ensures c.args.key c.args.value c.in-Some.ensures }

pub returns-in-Some-clause-cases : goal.returns-in-Some-clause-cases
returns-in-Some-clause-cases g c =
    entered_cases g.K.Key.lawful c.args.self.now.sound c.room_in-room.ensures c.args.key c.args.value c.in-Some.ensures

pub returns-in-None-clause-cases : goal.returns-in-None-clause-cases
returns-in-None-clause-cases g c =
    refused_cases g.K.Key.lawful c.args.self.now.sound c.room_in-room.ensures c.args.key c.args.value c.in-None.ensures
