use Rattle.std.proofs.Common.{sym}
use Rattle.segment_files.proofs.Rested.{all_agree, doubt_same, damage_same}
use Rattle.segment_files.proofs.laws.damage_follows_from_the_segments.Goals as goal

pub returns-clause-doubt : goal.returns-clause-doubt
returns-clause-doubt c form name one other same = sym (doubt_same form name one other (all_agree form name one other same))

pub returns-clause-damage : goal.returns-clause-damage
returns-clause-damage c form name one other same = sym (damage_same form name one other (all_agree form name one other same))
