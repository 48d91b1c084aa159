-- Outputs, delivered one after another.
use Rattle.std.proofs.Common.{◌≡◌, ◌∙◌, ◌⊎◌, inl, inr, ℕ, Bool, true, false, List, [], ◌∷◌, ◌++◌, MatchBool, refl, sym, ap, subst}
use Rattle.std.proofs.lemmas.List.{append-nil, append_assoc}
use Rattle.serve_loop.specs.declared.out.Out.{Out}
use Rattle.serve_loop.specs.declared.out.Out.TheVariants.{Send, HangUp}
use Rattle.std.specs.Prelude.{Err}
use Rattle.pad_edge.specs.Port.{failed_after}
use Rattle.pad_edge.specs.declared.link_refused.LinkRefused.{LinkRefused}
use Rattle.pad_edge.specs.declared.link_refused.LinkRefused.TheVariants.{Failed}
use Rattle.pad_edge.specs.declared.sent.Sent.{Sent}
use Rattle.pad_edge.specs.declared.sent.Sent.TheVariants.{Text, HungUp}
use Rattle.serve_loop.specs.Connected.{is_among}
use Rattle.serve_loop.specs.Delivery.{Delivers}
use Rattle.serve_loop.specs.Inside.Taken.{IsDelivered, IsCut}
use Rattle.serve_loop.specs.Hangs.{HangsAfter}
use Rattle.serve_loop.specs.Inside.MayHang.{MayHang, MayDo, texted_by}

-- some outputs and then others
pub delivers_then : (before : List ℕ) (outs more : List Out) (sent later : List Sent) (failed others : List ℕ) → Delivers before outs sent failed
    → Delivers (before ++ failed) more later others → Delivers before (outs ++ more) (sent ++ later) (failed ++ others)
delivers_then before [] more sent later failed others done then =
    let P : List ℕ → List ℕ → Type 0 = λ w f. Delivers w more (sent ++ later) (f ++ others) in
    let Q : List Sent → Type 0 = λ s. Delivers before more (s ++ later) (failed ++ others) in
    let R : List ℕ → Type 0 = λ f. Delivers before more later (f ++ others) in
    let S : List ℕ → Type 0 = λ w. Delivers w more later others in
    let at : before ++ failed ≡ before = ap (λ (l : List ℕ). before ++ l) done.1 ∙ append-nil before in
    subst Q (sym done.0) (subst R (sym done.1) (subst S at then))
delivers_then before (Send connection text ∷ outs) more sent later failed others done then =
    elim (is_among before connection) as (λ (b : Bool). MatchBool b (Delivers before outs sent failed)
    (((rest : List Sent) × (sent ≡ Text connection text ∷ rest) × Delivers before outs rest failed)
    ⊎ ((rest : List Sent) × (fails : List ℕ) × (sent ≡ HungUp connection ∷ rest) × (failed ≡ connection ∷ fails) × Delivers (before ++ connection ∷ []) outs rest fails))
    → MatchBool b (Delivers before (outs ++ more) (sent ++ later) (failed ++ others))
    (((rest : List Sent) × (sent ++ later ≡ Text connection text ∷ rest) × Delivers before (outs ++ more) rest (failed ++ others))
    ⊎ ((rest : List Sent) × (fails : List ℕ) × (sent ++ later ≡ HungUp connection ∷ rest) × (failed ++ others ≡ connection ∷ fails) × Delivers (before ++ connection ∷ []) (outs ++ more) rest fails))) [
      | true ↦ λ d. delivers_then before outs more sent later failed others d then
      | false ↦ λ d. elim d [
        | inl went ↦ inl (went.0 ++ later, ap (λ (l : List Sent). l ++ later) went.1, delivers_then before outs more went.0 later failed others went.2 then)
        | inr lost ↦
            let S : List ℕ → Type 0 = λ w. Delivers w more later others in
            let at : before ++ failed ≡ (before ++ connection ∷ []) ++ lost.1 = ap (λ (l : List ℕ). before ++ l) lost.3 ∙ sym (append_assoc before (connection ∷ []) lost.1) in
            inr (
              lost.0 ++ later,
              lost.1 ++ others,
              ap (λ (l : List Sent). l ++ later) lost.2,
              ap (λ (l : List ℕ). l ++ others) lost.3,
              delivers_then (before ++ connection ∷ []) outs more lost.0 later lost.1 others lost.4 (subst S at then),
            )
      ]
    ] done
delivers_then before (HangUp connection ∷ outs) more sent later failed others done then =
    elim (is_among before connection) as (λ (b : Bool). MatchBool b (Delivers before outs sent failed)
    ((rest : List Sent) × (sent ≡ HungUp connection ∷ rest) × Delivers before outs rest failed)
    → MatchBool b (Delivers before (outs ++ more) (sent ++ later) (failed ++ others))
    ((rest : List Sent) × (sent ++ later ≡ HungUp connection ∷ rest) × Delivers before (outs ++ more) rest (failed ++ others))) [
      | true ↦ λ d. delivers_then before outs more sent later failed others d then
      | false ↦ λ d. (d.0 ++ later, ap (λ (l : List Sent). l ++ later) d.1, delivers_then before outs more d.0 later failed others d.2 then)
    ] done

-- the same of a port
pub delivered_then : (tells : Type 0) (before mid after : List ℕ) (outs more : List Out) (sent_before sent_mid sent_after : List Sent) (failed_before failed_mid failed_after : List ℕ)
    → IsDelivered tells before mid outs sent_before sent_mid failed_before failed_mid → IsDelivered tells mid after more sent_mid sent_after failed_mid failed_after
    → IsDelivered tells before after (outs ++ more) sent_before sent_after failed_before failed_after
delivered_then tells before mid after outs more sent_before sent_mid sent_after failed_before failed_mid failed_after one two =
    let S : List ℕ → Type 0 = λ w. Delivers w more two.gone two.failed in
    record {
      gone = one.gone ++ two.gone;
      failed = one.failed ++ two.failed;
      delivers = delivers_then before outs more one.gone two.gone one.failed two.failed one.delivers (subst S one.waiting_is two.delivers);
      gone_is = λ told. two.gone_is told ∙ ap (λ (l : List Sent). l ++ two.gone) (one.gone_is told) ∙ append_assoc sent_before one.gone two.gone;
      failed_is = λ told. two.failed_is told ∙ ap (λ (l : List ℕ). l ++ two.failed) (one.failed_is told) ∙ append_assoc failed_before one.failed two.failed;
      waiting_is = two.waiting_is ∙ ap (λ (l : List ℕ). l ++ two.failed) one.waiting_is ∙ append_assoc before one.failed two.failed;
    }

-- nothing was done
pub delivered_none : (tells : Type 0) (waiting : List ℕ) (sent : List Sent) (failed : List ℕ) → IsDelivered tells waiting waiting [] sent sent failed failed
delivered_none tells waiting sent failed = record {
  gone = [];
  failed = [];
  delivers = (refl, refl);
  gone_is = λ told. sym (append-nil sent);
  failed_is = λ told. sym (append-nil failed);
  waiting_is = sym (append-nil waiting);
}

-- an output for one that waits is left out
pub left_out : (tells : Type 0) (waiting : List ℕ) (connection : ℕ) (text : List ℕ) (sent : List Sent) (failed : List ℕ) → is_among waiting connection ≡ true
    → IsDelivered tells waiting waiting (Send connection text ∷ []) sent sent failed failed
left_out tells waiting connection text sent failed among = record {
  gone = [];
  failed = [];
  delivers = rw among (refl, refl);
  gone_is = λ told. sym (append-nil sent);
  failed_is = λ told. sym (append-nil failed);
  waiting_is = sym (append-nil waiting);
}

-- a text went out
pub went : (tells : Type 0) (waiting : List ℕ) (connection : ℕ) (text : List ℕ) (before after : List Sent) (failed_before failed_after : List ℕ) → is_among waiting connection ≡ false
    → (tells → after ≡ before ++ Text connection text ∷ []) → (tells → failed_after ≡ failed_before)
    → IsDelivered tells waiting waiting (Send connection text ∷ []) before after failed_before failed_after
went tells waiting connection text before after failed_before failed_after among is same = record {
  gone = Text connection text ∷ [];
  failed = [];
  delivers = rw among (inl ([], refl, (refl, refl)));
  gone_is = is;
  failed_is = λ told. same told ∙ sym (append-nil failed_before);
  waiting_is = sym (append-nil waiting);
}

-- a send failed
pub lost : (tells : Type 0) (waiting : List ℕ) (connection : ℕ) (text : List ℕ) (before after : List Sent) (failed_before failed_after : List ℕ) → is_among waiting connection ≡ false
    → (tells → after ≡ before ++ HungUp connection ∷ []) → (tells → failed_after ≡ failed_before ++ connection ∷ [])
    → IsDelivered tells waiting (waiting ++ connection ∷ []) (Send connection text ∷ []) before after failed_before failed_after
lost tells waiting connection text before after failed_before failed_after among is fails = record {
  gone = HungUp connection ∷ [];
  failed = connection ∷ [];
  delivers = rw among (inr ([], [], refl, refl, (refl, refl)));
  gone_is = is;
  failed_is = fails;
  waiting_is = refl;
}

-- the connection of a send that failed is told
pub failed_by : (T : Type 0) (before after : List ℕ) (connection : ℕ) (why : LinkRefused) → why ≡ Failed → after ≡ failed_after {T = T} before connection (Err why) → after ≡ before ++ connection ∷ []
failed_by T before after connection why is same = same ∙ ap (λ (w : LinkRefused). failed_after {T = T} before connection (Err w)) is

-- a connection was hung up
pub hung_up : (tells : Type 0) (waiting : List ℕ) (connection : ℕ) (before after : List Sent) (failed_before failed_after : List ℕ) → is_among waiting connection ≡ false
    → (tells → after ≡ before ++ HungUp connection ∷ []) → (tells → failed_after ≡ failed_before)
    → IsDelivered tells waiting waiting (HangUp connection ∷ []) before after failed_before failed_after
hung_up tells waiting connection before after failed_before failed_after among is same = record {
  gone = HungUp connection ∷ [];
  failed = [];
  delivers = rw among ([], refl, (refl, refl));
  gone_is = is;
  failed_is = λ told. same told ∙ sym (append-nil failed_before);
  waiting_is = sym (append-nil waiting);
}

pub hang_left_out : (tells : Type 0) (waiting : List ℕ) (connection : ℕ) (sent : List Sent) (failed : List ℕ) → is_among waiting connection ≡ true
    → IsDelivered tells waiting waiting (HangUp connection ∷ []) sent sent failed failed
hang_left_out tells waiting connection sent failed among = record {
  gone = [];
  failed = [];
  delivers = rw among (refl, refl);
  gone_is = λ told. sym (append-nil sent);
  failed_is = λ told. sym (append-nil failed);
  waiting_is = sym (append-nil waiting);
}

-- the outputs that are left may hang up as the first of them may
pub may_do : (last waiting : List ℕ) (spare : ℕ) (out : Out) (outs : List Out) → HangsAfter last (out ∷ outs) → MayHang last waiting spare → MayDo out waiting spare
may_do last waiting spare (Send connection text) outs hangs may = tt
may_do [] waiting spare (HangUp connection) outs hangs may = absurd hangs
may_do (one ∷ last) waiting spare (HangUp connection) outs hangs may = λ among. may (ap (is_among waiting) (sym hangs.0) ∙ among)

pub hangs_next : (last : List ℕ) (out : Out) (outs : List Out) → HangsAfter last (out ∷ outs) → HangsAfter (texted_by out) outs
hangs_next last (Send connection text) outs hangs = hangs
hangs_next [] (HangUp connection) outs hangs = absurd hangs
hangs_next (one ∷ last) (HangUp connection) outs hangs = hangs.1

-- the first outputs were delivered, and the next one was not
pub cut_at : (tells : Type 0) (before mid : List ℕ) (outs front rest : List Out) (sent_before sent_mid sent_after : List Sent) (failed_before failed_mid failed_after : List ℕ)
    → IsDelivered tells before mid front sent_before sent_mid failed_before failed_mid → outs ≡ front ++ rest → (tells → sent_after ≡ sent_mid) → (tells → failed_after ≡ failed_mid)
    → IsCut tells before outs sent_before sent_after failed_before failed_after
cut_at tells before mid outs front rest sent_before sent_mid sent_after failed_before failed_mid failed_after one is sent_same failed_same = record {
  front = front;
  rest = rest;
  gone = one.gone;
  failed = one.failed;
  outs_is = is;
  delivers = one.delivers;
  gone_is = λ told. sent_same told ∙ one.gone_is told;
  failed_is = λ told. failed_same told ∙ one.failed_is told;
}
