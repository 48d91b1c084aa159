use Rattle.client_copy.proofs.tests.work_comes_back_when_its_message_leaves.Given as goal

abbrev pub ghosts-overtaken : goal.ghosts-overtaken
ghosts-overtaken g a = record { name = a.blank.name; parts = a.blank.parts }
