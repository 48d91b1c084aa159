use Rattle.pad_generate.proofs.generating.generate.Given as goal

-- the counter of the command has a ledger of its own
abbrev pub ghosts-generated : goal.ghosts-generated
ghosts-generated g a = record { name = a.blank.name; parts = a.blank.parts }
