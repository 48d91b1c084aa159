use Rattle.pad_top.proofs.client.run_commands.Given as goal

-- the counter of the client has a ledger of its own
abbrev pub ghosts-carry_out : goal.ghosts-carry_out
ghosts-carry_out g a = record { name = a.blank.name; parts = a.blank.parts }
