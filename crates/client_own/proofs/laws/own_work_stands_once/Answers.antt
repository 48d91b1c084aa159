use Rattle.pad_text.proofs.CallerLemmas.{IsText-nil}
use Rattle.client_own.proofs.Living.{stands_once}
use Rattle.client_own.proofs.laws.own_work_stands_once.Goals as goal

pub returns : goal.returns
returns c = stands_once (record {
  steps = record {
    own_back = c.own_reverted.ensures;
    own_on = c.own_applied.ensures;
    other_back = c.other_reverted.ensures;
    other_on = c.other_applied.ensures;
    gives_back = c.inverse_gives_back.ensures;
  };
  switches = c.moved_stands.ensures;
  paths = record { applies = c.fitting_applies.ensures; texts = c.texts_stay_texts.ensures; long = c.row_is_as_long.ensures; row_marks = c.row_marks.ensures };
  marks = record {
    come_from = c.marks_come_from_either.ensures;
    strip = c.stripped_marks.ensures;
    turn_counted = c.turn_counted.ensures;
    carried_counted = c.carried_counted.ensures;
    carried_marks = c.carried_marks.ensures;
    stripped_counted = c.stripped_counted.ensures;
    of_stroke = c.marks_of_stroke.ensures;
  };
  edits = record { is_typed = c.edit_is_typed.ensures; turned = c.own_edited.ensures; stays = c.sent_stays.ensures };
  made_is_sent = c.made_is_sent.ensures;
  adopted = c.adopted.ensures;
  nothing = c.nothing_typed.ensures;
  once = c.typed_once.ensures;
  no_text = IsText-nil;
})
