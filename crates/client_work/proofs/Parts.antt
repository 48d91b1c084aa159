-- Moves in two parts: those that leave, and those that come.
use Rattle.std.proofs.Common.{◌≡◌, ℕ, List, [], ◌∷◌, ◌++◌, length, refl, sym, ◌∙◌, ap, subst}
use Rattle.pad_text.specs.declared.name.Name.{Name}
use Rattle.pad_text.specs.Hash.{document_hash}
use Rattle.pad_patch.specs.Piece.{text_after}
use Rattle.pad_stroke.specs.Work.{Marked}
use Rattle.pad_branch.specs.declared.moved.Move.{Move}
use Rattle.pad_chain.specs.Leads.{Leads}
use Rattle.client_work.specs.Switch.{SentWorks, sent_as, Draft, reverted, applied, in_order}
use Rattle.client_work.specs.Carrying.{Ground, behind, behind_all, IsOnGround, AreCarried, AreInverses, AreReady}
use Rattle.client_work.specs.Inside.Steps.{first_hash}
use Rattle.client_work.proofs.Grounds.{carried_behind}
use Rattle.client_work.proofs.Loops.{draft}

-- the ground behind both parts
pub behind_both : (back on : List Move) (grounds : Ground) → behind_all (back ++ on) grounds ≡ behind_all on (behind_all back grounds)
behind_both [] on grounds = refl
behind_both (move ∷ back) on grounds = behind_both back on (behind move grounds)

leads_back : (back on : List Move) (grounds : Ground) (to : List ℕ) → Leads (back ++ on) grounds.text to → Leads back grounds.text (behind_all back grounds).text
leads_back [] on grounds to leads = refl
leads_back (move ∷ back) on grounds to leads = (leads.0, leads_back back on (behind move grounds) to leads.1)

leads_on : (back on : List Move) (grounds : Ground) (to : List ℕ) → Leads (back ++ on) grounds.text to → Leads on (behind_all back grounds).text to
leads_on [] on grounds to leads = leads
leads_on (move ∷ back) on grounds to leads = leads_on back on (behind move grounds) to leads.1

-- what is carried on a ground is carried on the one behind
carried_all : (back : List Move) (grounds : Ground) (sent : SentWorks) → AreCarried grounds sent → AreCarried (behind_all back grounds) sent
carried_all [] grounds sent are = are
carried_all (move ∷ back) grounds sent are = carried_all back (behind move grounds) sent (λ name. carried_behind move grounds (sent_as sent name) (are name))

-- the hash of the text between the parts
fork_of : (on : List Move) (end : Name) (grounds : Ground) → Leads on grounds.text (behind_all on grounds).text → end ≡ document_hash (behind_all on grounds).text
    → first_hash on end ≡ document_hash grounds.text
fork_of [] end grounds leads last = last
fork_of (move ∷ on) end grounds leads last = leads.0.made

-- the first part is ready
pub ready_back : (grounds : Ground) (sent : SentWorks) (back on : List Move) (size : ℕ) (end fork : Name) (work : Marked) → fork ≡ first_hash on end
    → AreReady grounds sent (back ++ on) size end work → AreReady grounds sent back size fork work
ready_back grounds sent back on size end fork work is ready =
    let to : List ℕ = (behind_all (back ++ on) grounds).text in
    let middle : Ground = behind_all back grounds in
    let leads = subst (λ (g : Ground). Leads on middle.text g.text) (behind_both back on grounds) (leads_on back on grounds to ready.leads) in
    record {
      leads = leads_back back on grounds to ready.leads;
      long = ready.long;
      last = is ∙ fork_of on end middle leads (ready.last ∙ ap (λ (g : Ground). document_hash g.text) (behind_both back on grounds));
      on_ground = ready.on_ground;
      carried = ready.carried;
    }

-- and then the second
pub ready_on : (grounds : Ground) (sent : SentWorks) (back on : List Move) (size : ℕ) (end : Name) (work next : Marked)
    → AreReady grounds sent (back ++ on) size end work → IsOnGround (behind_all back grounds) next → AreReady (behind_all back grounds) sent on (length (behind_all back grounds).text) end next
ready_on grounds sent back on size end work next ready stands = record {
  leads = subst (λ (g : Ground). Leads on (behind_all back grounds).text g.text) (behind_both back on grounds) (leads_on back on grounds (behind_all (back ++ on) grounds).text ready.leads);
  long = refl;
  last = ready.last ∙ ap (λ (g : Ground). document_hash g.text) (behind_both back on grounds);
  on_ground = stands;
  carried = carried_all back grounds sent ready.carried;
}

-- both parts
pub both_parts : (grounds : Ground) (sent : SentWorks) (back on : List Move) (work middle next : Marked)
    → draft (behind_all back grounds) middle ≡ in_order (reverted sent) back (draft grounds work)
    → draft (behind_all on (behind_all back grounds)) next ≡ in_order (applied sent) on (draft (behind_all back grounds) middle)
    → draft (behind_all (back ++ on) grounds) next ≡ in_order (applied sent) on (in_order (reverted sent) back (draft grounds work))
both_parts grounds sent back on work middle next first second =
    ap (λ (g : Ground). draft g next) (behind_both back on grounds) ∙ second ∙ ap (in_order (applied sent) on) first
