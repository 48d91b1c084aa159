use Rattle.pad_chain.proofs.tests.a_new_chain_comes_from_its_base_alone.Given as goal

abbrev pub ghosts-moves_to_new : goal.ghosts-moves_to_new
ghosts-moves_to_new g a = record { name = a.blank.name; parts = a.blank.parts }
