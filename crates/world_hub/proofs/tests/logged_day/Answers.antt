use Rattle.world_hub.proofs.tests.logged_day.Goals as goal

pub day-requires-clause-first : goal.day-requires-clause-first
day-requires-clause-first c = record { sound = c.new-first.ensures.sound; keeps_none = c.new-first.ensures.keeps }

pub day-requires-clause-second : goal.day-requires-clause-second
day-requires-clause-second c = record { sound = c.new-second.ensures.sound; keeps_none = c.new-second.ensures.keeps }
