use Rattle.pad_top.proofs.command.run_replay.Given as goal

-- the counter of the command has a ledger of its own
abbrev pub ghosts-replay : goal.ghosts-replay
ghosts-replay g a = record { name = a.blank.name; parts = a.blank.parts }
