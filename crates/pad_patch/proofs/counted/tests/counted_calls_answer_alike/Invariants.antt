use Rattle.pad_patch.proofs.counted.tests.counted_calls_answer_alike.Given as goal

abbrev pub ghosts-both_counted : goal.ghosts-both_counted
ghosts-both_counted g a = record { name = a.blank.name; parts = a.blank.parts }
