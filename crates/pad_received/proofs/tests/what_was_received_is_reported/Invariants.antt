use Rattle.pad_received.proofs.tests.what_was_received_is_reported.Given as goal

abbrev pub ghosts-told : goal.ghosts-told
ghosts-told g a = record { name = a.blank.name; parts = a.blank.parts }
