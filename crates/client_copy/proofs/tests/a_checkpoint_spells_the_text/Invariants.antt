use Rattle.client_copy.proofs.tests.a_checkpoint_spells_the_text.Given as goal

abbrev pub ghosts-checkpointed : goal.ghosts-checkpointed
ghosts-checkpointed g a = record { name = a.blank.name; parts = a.blank.parts }
