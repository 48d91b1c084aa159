-- Runs so far, and how they go on.
use Rattle.std.proofs.Common.{◌≡◌, ◌≢◌, ◌∙◌, ◌⊎◌, ℕ, true, false, List, [], ◌∷◌, ◌++◌, Option, inl, inr, refl, sym, ap, subst}
use Rattle.std.proofs.lemmas.List.{append-nil, append_assoc}
use Rattle.std.specs.Io.KnownBytes.{Appends}
use Rattle.std.proofs.KnownBytes.{Appends-trans}
use Rattle.pad_output.specs.Output.{AppendsPart}
use Rattle.pad_conversation.proofs.Parts.{nothing_of, all_of, part_behind}
use Rattle.pad_conversation.specs.Machine.{Machine}
use Rattle.pad_conversation.specs.Told.{Told, told}
use Rattle.pad_conversation.specs.Run.{Runs, begins, does_one, hears_one, MayRun}
use Rattle.pad_conversation.specs.Ends.{IsRun, IsStopped, Because}
use Rattle.pad_conversation.specs.Inside.Progress.{HasHeard, HasHeardInPart, none_came, refused_one, unwritten, HasDone, HasDoneInPart, refuses_one, cut_short}
use Rattle.pad_conversation.specs.declared.refused.ConversationRefused.{ConversationRefused}
use Rattle.pad_conversation.specs.declared.refused.ConversationRefused.TheVariants as refused

-- the premise over more texts is one over fewer
pub may_fewer : {S C : Type 0} (machine : Machine S C) (first : S) (commands : List C) (heard more : List (List ℕ)) → MayRun machine first commands (heard ++ more) → MayRun machine first commands heard
may_fewer machine first commands heard more may = record {
  for_command = λ done rest command before after sent written state is are runs.
      may.for_command done rest command before (after ++ more) sent written state is (ap (λ (l : List (List ℕ)). l ++ more) are ∙ append_assoc before after more) runs;
  for_text = λ done rest text before after sent written state is are runs.
      may.for_text done rest text before (after ++ more) sent written state is (ap (λ (l : List (List ℕ)). l ++ more) are ∙ append_assoc before (text ∷ after) more) runs;
}

-- nothing was done yet
pub run_none : {S C : Type 0} (machine : Machine S C) (Stands : S → Type 0) (first : S) (commands : List C) (link_tells : Type 0) (before : Told) → Stands first
    → Appends before.written before.written []
    → IsRun machine Stands first commands [] link_tells before before
run_none machine Stands first commands link_tells before stands none = record {
  heard = [];
  sent = [];
  written = [];
  heard_is = λ tells. sym (append-nil before.heard);
  sent_is = λ tells. sym (append-nil before.sent);
  written_is = none;
  comes = λ may. (first, begins, stands);
}

-- one more text was heard, in a state that waits
pub run_hears : {S C : Type 0} (machine : Machine S C) (Old New : S → Type 0) (first : S) (commands done rest : List C) (link_tells : Type 0) (before mid now : Told) → commands ≡ done ++ rest
    → ((state : S) → Old state → machine.waits state ≡ true)
    → IsRun machine Old first commands done link_tells before mid → HasHeard machine Old New link_tells mid now → IsRun machine New first commands done link_tells before now
run_hears machine Old New first commands done rest link_tells before mid now are waits run one = record {
  heard = run.heard ++ one.text ∷ [];
  sent = run.sent;
  written = run.written ++ one.lines;
  heard_is = λ tells. one.heard_is tells ∙ ap (λ (l : List (List ℕ)). l ++ one.text ∷ []) (run.heard_is tells) ∙ append_assoc before.heard run.heard (one.text ∷ []);
  sent_is = λ tells. one.sent_is tells ∙ run.sent_is tells;
  written_is = Appends-trans _ _ _ run.written one.lines run.written_is one.written_is;
  comes = λ may.
      let so_far = run.comes (may_fewer machine first commands run.heard (one.text ∷ []) may) in
      let next = one.hears so_far.0 so_far.2 (may.for_text done rest one.text run.heard [] run.sent run.written so_far.0 are refl so_far.1) in
      (next.0, hears_one one.text one.lines next.0 so_far.1 (waits so_far.0 so_far.2) next.1, next.2);
}

-- one more command was done, in a state that does not wait
pub run_does : {S C : Type 0} (machine : Machine S C) (Old New : S → Type 0) (first : S) (commands done rest : List C) (command : C) (link_tells : Type 0) (before mid now : Told) → commands ≡ done ++ command ∷ rest
    → IsRun machine (λ state. Old state × (machine.waits state ≡ false)) first commands done link_tells before mid → HasDone machine Old New command link_tells mid now
    → IsRun machine New first commands (done ++ command ∷ []) link_tells before now
run_does machine Old New first commands done rest command link_tells before mid now are run one = record {
  heard = run.heard;
  sent = run.sent ++ one.texts;
  written = run.written ++ one.lines;
  heard_is = λ tells. one.heard_is tells ∙ run.heard_is tells;
  sent_is = λ tells. one.sent_is tells ∙ ap (λ (l : List (List ℕ)). l ++ one.texts) (run.sent_is tells) ∙ append_assoc before.sent run.sent one.texts;
  written_is = Appends-trans _ _ _ run.written one.lines run.written_is one.written_is;
  comes = λ may.
      let so_far = run.comes may in
      let next = one.does so_far.0 so_far.2.0 (may.for_command done rest command run.heard [] run.sent run.written so_far.0 are (sym (append-nil run.heard)) so_far.1) in
      (next.0, does_one command one.texts one.lines next.0 so_far.1 so_far.2.1 next.1, next.2);
}

-- why it stopped where no text was given, in a state that waits
because_none : {S C : Type 0} (machine : Machine S C) (why : ConversationRefused) (rest : List C) (state : S) → why ≢ refused.Full → machine.waits state ≡ true → Because machine why rest [] state
because_none machine refused.Link rest state other waits = tt
because_none machine refused.Ended rest state other waits = waits
because_none machine refused.Write rest state other waits = tt
because_none machine refused.Full rest state other waits = absurd (other refl)
because_none machine refused.NoMemory rest state other waits = tt

-- why it stopped where the speaker refused a text
because_text : {S C : Type 0} (machine : Machine S C) (why : ConversationRefused) (rest : List C) (text : List ℕ) (state : S) → why ≢ refused.Ended → machine.waits state ≡ true
    → (why ≡ refused.Full → machine.overflows state text) → Because machine why rest (text ∷ []) state
because_text machine refused.Link rest text state other waits overflows = tt
because_text machine refused.Ended rest text state other waits overflows = absurd (other refl)
because_text machine refused.Write rest text state other waits overflows = tt
because_text machine refused.Full [] text state other waits overflows = (waits, overflows refl)
because_text machine refused.Full (command ∷ rest) text state other waits overflows = (waits, overflows refl)
because_text machine refused.NoMemory rest text state other waits overflows = tt

-- why it stopped within a command
because_command : {S C : Type 0} (machine : Machine S C) (why : ConversationRefused) (command : C) (rest : List C) (state : S) → why ≢ refused.Ended → machine.waits state ≡ false
    → (why ≡ refused.Full → machine.overfills state command) → Because machine why (command ∷ rest) [] state
because_command machine refused.Link command rest state other waits overfills = tt
because_command machine refused.Ended command rest state other waits overfills = absurd (other refl)
because_command machine refused.Write command rest state other waits overfills = tt
because_command machine refused.Full command rest state other waits overfills = (waits, overfills refl)
because_command machine refused.NoMemory command rest state other waits overfills = tt

-- why it stopped behind a command whose texts or lines did not all go
because_cut : {S C : Type 0} (machine : Machine S C) (why : ConversationRefused) (rest : List C) (state : S) → why ≢ refused.Ended → why ≢ refused.Full → Because machine why rest [] state
because_cut machine refused.Link rest state other more = tt
because_cut machine refused.Ended rest state other more = absurd (other refl)
because_cut machine refused.Write rest state other more = tt
because_cut machine refused.Full rest state other more = absurd (more refl)
because_cut machine refused.NoMemory rest state other more = tt

-- a text was not heard to its end
pub stopped_hearing : {S C : Type 0} (machine : Machine S C) (Old : S → Type 0) (first : S) (commands done rest : List C) (link_tells : Type 0) (before mid now : Told) (why : ConversationRefused) → commands ≡ done ++ rest
    → ((state : S) → Old state → machine.waits state ≡ true)
    → IsRun machine Old first commands done link_tells before mid → HasHeardInPart machine Old link_tells mid now why → IsStopped machine first commands link_tells before now why
stopped_hearing machine Old first commands done rest link_tells before mid now _ are waits run (none_came why other heard_is sent_is written_is) = record {
  done = done;
  rest = rest;
  commands_are = are;
  heard = run.heard;
  unheard = [];
  one_unheard = inl refl;
  sent = run.sent;
  gone = run.sent;
  later = [];
  gone_is = sym (append-nil run.sent);
  written = run.written;
  heard_is = λ tells. heard_is tells ∙ run.heard_is tells ∙ ap (λ (l : List (List ℕ)). before.heard ++ l) (sym (append-nil run.heard));
  sent_is = λ tells. sent_is tells ∙ run.sent_is tells;
  written_is = all_of before.written now.written run.written (subst (λ (w : Option (List ℕ)). Appends before.written w run.written) (sym written_is) run.written_is);
  comes = λ may. let so_far = run.comes may in (so_far.0, so_far.1, because_none machine why rest so_far.0 other (waits so_far.0 so_far.2));
}
stopped_hearing machine Old first commands done rest link_tells before mid now _ are waits run (refused_one why text other overflows heard_is sent_is written_is) = record {
  done = done;
  rest = rest;
  commands_are = are;
  heard = run.heard;
  unheard = text ∷ [];
  one_unheard = inr (text, refl);
  sent = run.sent;
  gone = run.sent;
  later = [];
  gone_is = sym (append-nil run.sent);
  written = run.written;
  heard_is = λ tells. heard_is tells ∙ ap (λ (l : List (List ℕ)). l ++ text ∷ []) (run.heard_is tells) ∙ append_assoc before.heard run.heard (text ∷ []);
  sent_is = λ tells. sent_is tells ∙ run.sent_is tells;
  written_is = all_of before.written now.written run.written (subst (λ (w : Option (List ℕ)). Appends before.written w run.written) (sym written_is) run.written_is);
  comes = λ may. let so_far = run.comes may in (so_far.0, so_far.1, because_text machine why rest text so_far.0 other (waits so_far.0 so_far.2) (λ full. overflows full so_far.0 so_far.2));
}
stopped_hearing machine Old first commands done rest link_tells before mid now _ are waits run (unwritten text lines heard_is sent_is part hears) = record {
  done = done;
  rest = rest;
  commands_are = are;
  heard = run.heard ++ text ∷ [];
  unheard = [];
  one_unheard = inl refl;
  sent = run.sent;
  gone = run.sent;
  later = [];
  gone_is = sym (append-nil run.sent);
  written = run.written ++ lines;
  heard_is = λ tells. heard_is tells ∙ ap (λ (l : List (List ℕ)). l ++ text ∷ []) (run.heard_is tells) ∙ append_assoc before.heard run.heard (text ∷ []) ∙ ap (λ (l : List (List ℕ)). before.heard ++ l) (sym (append-nil (run.heard ++ text ∷ [])));
  sent_is = λ tells. sent_is tells ∙ run.sent_is tells;
  written_is = part_behind before.written mid.written now.written run.written lines run.written_is part;
  comes = λ may.
      let so_far = run.comes (may_fewer machine first commands run.heard (text ∷ []) may) in
      let next = hears so_far.0 so_far.2 (may.for_text done rest text run.heard [] run.sent run.written so_far.0 are refl so_far.1) in
      (next.0, hears_one text lines next.0 so_far.1 (waits so_far.0 so_far.2) next.1, tt);
}

-- a command was not done to its end
pub stopped_doing : {S C : Type 0} (machine : Machine S C) (Old : S → Type 0) (first : S) (commands done rest : List C) (command : C) (link_tells : Type 0) (before mid now : Told) (why : ConversationRefused) → commands ≡ done ++ command ∷ rest
    → IsRun machine (λ state. Old state × (machine.waits state ≡ false)) first commands done link_tells before mid → HasDoneInPart machine Old command link_tells mid now why → IsStopped machine first commands link_tells before now why
stopped_doing machine Old first commands done rest command link_tells before mid now _ are run (refuses_one why other overfills heard_is sent_is written_is) = record {
  done = done;
  rest = command ∷ rest;
  commands_are = are;
  heard = run.heard;
  unheard = [];
  one_unheard = inl refl;
  sent = run.sent;
  gone = run.sent;
  later = [];
  gone_is = sym (append-nil run.sent);
  written = run.written;
  heard_is = λ tells. heard_is tells ∙ run.heard_is tells ∙ ap (λ (l : List (List ℕ)). before.heard ++ l) (sym (append-nil run.heard));
  sent_is = λ tells. sent_is tells ∙ run.sent_is tells;
  written_is = all_of before.written now.written run.written (subst (λ (w : Option (List ℕ)). Appends before.written w run.written) (sym written_is) run.written_is);
  comes = λ may. let so_far = run.comes may in (so_far.0, so_far.1, because_command machine why command rest so_far.0 other so_far.2.1 (λ full. overfills full so_far.0 so_far.2.0));
}
stopped_doing machine Old first commands done rest command link_tells before mid now _ are run (cut_short why texts gone later lines other more gone_is heard_is sent_is part does) = record {
  done = done ++ command ∷ [];
  rest = rest;
  commands_are = are ∙ sym (append_assoc done (command ∷ []) rest);
  heard = run.heard;
  unheard = [];
  one_unheard = inl refl;
  sent = run.sent ++ texts;
  gone = run.sent ++ gone;
  later = later;
  gone_is = ap (λ (l : List (List ℕ)). run.sent ++ l) gone_is ∙ sym (append_assoc run.sent gone later);
  written = run.written ++ lines;
  heard_is = λ tells. heard_is tells ∙ run.heard_is tells ∙ ap (λ (l : List (List ℕ)). before.heard ++ l) (sym (append-nil run.heard));
  sent_is = λ tells. sent_is tells ∙ ap (λ (l : List (List ℕ)). l ++ gone) (run.sent_is tells) ∙ append_assoc before.sent run.sent gone;
  written_is = part_behind before.written mid.written now.written run.written lines run.written_is part;
  comes = λ may.
      let so_far = run.comes may in
      let next = does so_far.0 so_far.2.0 (may.for_command done rest command run.heard [] run.sent run.written so_far.0 are (sym (append-nil run.heard)) so_far.1) in
      (next.0, does_one command texts lines next.0 so_far.1 so_far.2.1 next.1, because_cut machine why rest next.0 other more);
}

-- the state to which a run comes does not wait
pub run_where : {S C : Type 0} (machine : Machine S C) (Stands : S → Type 0) (first : S) (commands done : List C) (link_tells : Type 0) (before now : Told)
    → ((state : S) → Stands state → machine.waits state ≡ false) → IsRun machine Stands first commands done link_tells before now
    → IsRun machine (λ state. Stands state × (machine.waits state ≡ false)) first commands done link_tells before now
run_where machine Stands first commands done link_tells before now done_waiting run = record {
  heard = run.heard;
  sent = run.sent;
  written = run.written;
  heard_is = run.heard_is;
  sent_is = run.sent_is;
  written_is = run.written_is;
  comes = λ may. let so_far = run.comes may in (so_far.0, so_far.1, (so_far.2, done_waiting so_far.0 so_far.2));
}
