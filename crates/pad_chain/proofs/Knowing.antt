-- What a chain knows of the names of the messages received, as one more comes.
use Rattle.std.proofs.Common.{◌≡◌, ◌≢◌, ◌↔◌, ◌⊎◌, inl, inr, List, [], ◌∷◌, length, map, Contains, Result, Ok, Err, OnOk, refl, sym, ap, ◌∙◌, subst}
use Rattle.std.proofs.lemmas.List.{length-map}
use Rattle.pad_text.specs.declared.name.Name.{Name}
use Rattle.pad_message.specs.declared.message.Message.{Message}
use Rattle.pad_message.specs.Message.{name_of}
use Rattle.pad_graph.specs.declared.graph.TheConstants.{MOST_NAMES}
use Rattle.pad_graph.specs.declared.standing.Standing.{Standing}
use Rattle.pad_graph.specs.declared.standing.Standing.TheVariants as standing
use Rattle.pad_graph.specs.declared.added.Added.{Added}
use Rattle.pad_graph.specs.declared.added.Added.TheVariants.{Known, Waiting, Linked, Below}
use Rattle.pad_graph.specs.Added.{IsAdded, links_after}
use Rattle.pad_graph.specs.Chain.{Link, top, IsChain, IsAddedName}
use Rattle.pad_graph.specs.State as graph
use Rattle.pad_graph.specs.Graph.{Stands, IsNewName, IsStanding}
use Rattle.pad_list.specs.Number.{IsNumberOf}
use Rattle.pad_list.proofs.CallerLemmas.{contains_head, contains_more, contains_cases, contains_none, contains_map, mapped_from, number_same, number_listed, one_number}
use Rattle.pad_model.specs.declared.base.Base.{Base}
use Rattle.pad_model.specs.Count.{IsKnown}
use Rattle.pad_checkpoint.specs.Links.{link_of, names_of}
use Rattle.pad_chain.specs.declared.moved.Moved.{Moved}
use Rattle.pad_chain.specs.declared.receive_refused.ReceiveRefused.{ReceiveRefused}
use Rattle.pad_chain.specs.declared.receive_refused.ReceiveRefused.TheVariants.{Full}
use Rattle.pad_chain.specs.State.{View}
use Rattle.pad_chain.specs.Knows.{Knows, IsFull}
use Rattle.pad_chain.specs.Laws.{StoodIsKnown}
use Rattle.pad_chain.specs.Receive.{IsUntouched}
use Rattle.pad_chain.specs.Inside.Receiving.{KeepsNames, UndoesName}

-- ---- the names that one message more makes known

module _ (b : Base) (m : Message) (R : List Message) where
  known_more : (n : Name) → IsKnown b R n → IsKnown b (m ∷ R) n
  known_more n (x, c, e, apart) = (x, contains_more m R x c, e, apart)

  pub known_cases : (n : Name) → IsKnown b (m ∷ R) n → (name_of m ≡ n) ⊎ IsKnown b R n
  known_cases n (x, c, e, apart) = go (contains_cases m R x c)
    where
      go : (m ≡ x) ⊎ Contains R x → (name_of m ≡ n) ⊎ IsKnown b R n
      go (inl s) = inl (ap name_of s ∙ e)
      go (inr k) = inr (x, k, e, apart)

  added_cases : (links : List Link) (n : Name) → IsAddedName (link_of m ∷ links) n → (name_of m ≡ n) ⊎ IsAddedName links n
  added_cases links n (l, c, e) = go (contains_cases (link_of m) links l c)
    where
      go : (link_of m ≡ l) ⊎ Contains links l → (name_of m ≡ n) ⊎ IsAddedName links n
      go (inl s) = inl (ap (λ (k : Link). k.name) s ∙ e)
      go (inr k) = inr (l, k, e)

  -- the message's name is new
  one_more : (links : List Link) → ((n : Name) → IsAddedName links n ↔ IsKnown b R n) → IsNewName b.name links (name_of m) → (n : Name) → IsAddedName (link_of m ∷ links) n ↔ IsKnown b (m ∷ R) n
  one_more links names fresh n = (λ a. to (added_cases links n a), λ k. from (known_cases n k))
    where
      to : (name_of m ≡ n) ⊎ IsAddedName links n → IsKnown b (m ∷ R) n
      to (inl e) = (m, contains_head m R, e, λ base. fresh.0 (e ∙ base))
      to (inr a) = known_more n ((names n).0 a)

      from : (name_of m ≡ n) ⊎ IsKnown b R n → IsAddedName (link_of m ∷ links) n
      from (inl e) = (link_of m, contains_head (link_of m) links, e)
      from (inr k) = let a = (names n).1 k in (a.0, contains_more (link_of m) links a.0 a.1, a.2)

  -- the message's name is known, or the base's
  no_more : (links : List Link) → ((n : Name) → IsAddedName links n ↔ IsKnown b R n) → (name_of m ≡ b.name) ⊎ IsAddedName links (name_of m) → (n : Name) → IsAddedName links n ↔ IsKnown b (m ∷ R) n
  no_more links names told n = (λ a. known_more n ((names n).0 a), λ k. go (known_cases n k) told k.3)
    where
      go : (name_of m ≡ n) ⊎ IsKnown b R n → (name_of m ≡ b.name) ⊎ IsAddedName links (name_of m) → n ≢ b.name → IsAddedName links n
      go (inr k) t apart = (names n).1 k
      go (inl e) (inl base) apart = absurd (apart (sym e ∙ base))
      go (inl e) (inr a) apart = subst (IsAddedName links) e a

  names_after : (links : List Link) (root : List Name) (added : Added) → ((n : Name) → IsAddedName links n ↔ IsKnown b R n) → IsAdded b.name links root (link_of m) added → (n : Name) → IsAddedName (links_after (link_of m) links added) n ↔ IsKnown b (m ∷ R) n
  names_after links root Known names told = no_more links names told
  names_after links root Waiting names told = one_more links names told.0
  names_after links root (Linked ls) names told = one_more links names told.0
  names_after links root (Below ls) names told = one_more links names told.0

-- ---- what the chain knows

-- a graph to which nothing was added
pub knows_nothing : (chain : View) (b : Base) → Stands (graph.state_of chain.graph) b.name [] [] → Knows chain b []
knows_nothing chain b h = record { links = []; root = []; stands = h; names = λ n. (λ a. absurd (contains_none a.0 a.1), λ k. absurd (contains_none k.0 k.1)) }

pub knows_same : (old new : View) (b : Base) (R : List Message) → graph.state_of new.graph ≡ graph.state_of old.graph → Knows old b R → Knows new b R
knows_same old new b R same k = record { links = k.links; root = k.root; stands = subst (λ (s : graph.State). Stands s b.name k.links k.root) (sym same) k.stands; names = k.names }

-- a chain that stands for a list
pub stood_known : StoodIsKnown
stood_known chain b R choice s = record { links = s.links; root = names_of choice.root; stands = s.stands; names = λ n. (to n, from n) }
  where
    to : (n : Name) → IsAddedName s.links n → IsKnown b R n
    to n (l, c, e) =
        let each = s.are_links.each l c in
        let named : name_of each.0 ≡ l.name = ap (λ (k : Link). k.name) each.2 in
        (each.0, each.1, named ∙ e, λ base. s.stands.not_base l c (e ∙ base))

    from : (n : Name) → IsKnown b R n → IsAddedName s.links n
    from n (m, received, named, apart) = (link_of m, s.are_links.every m received (λ base. apart (sym named ∙ base)), named)

-- what a graph tells as it adds a message
abbrev pub Tells : View → View → Name → Message → Added → Type 0
Tells old new name m added =
    (base : Name) (links : List Link) (root : List Name) → Stands (graph.state_of old.graph) base links root → IsAdded base links root (record { name = name; parent = m.parent }) added × Stands (graph.state_of new.graph) base (links_after (record { name = name; parent = m.parent }) links added) root

module _ (old mid : View) (b : Base) (R : List Message) (m : Message) (name : Name) (added : Added) (named : name ≡ name_of m) (told : Tells old mid name m added) (k : Knows old b R) where
  after : IsAdded b.name k.links k.root (link_of m) added × Stands (graph.state_of mid.graph) b.name (links_after (link_of m) k.links added) k.root
  after = subst (λ (n : Name). IsAdded b.name k.links k.root (record { name = n; parent = m.parent }) added × Stands (graph.state_of mid.graph) b.name (links_after (record { name = n; parent = m.parent }) k.links added) k.root) named (told b.name k.links k.root k.stands)

  -- the message was added, and the links stayed since
  pub knows_more : (new : View) → KeepsNames mid new → Knows new b (m ∷ R)
  knows_more new keeps = record { links = links_after (link_of m) k.links added; root = next.0; stands = next.1; names = names_after b m R k.links k.root added k.names after.0 }
    where
      next : (root : List Name) × Stands (graph.state_of new.graph) b.name (links_after (link_of m) k.links added) root
      next = keeps b.name (links_after (link_of m) k.links added) k.root after.1

  -- the message was added, and taken back
  pub knows_again : (new : View) → links_after (link_of m) k.links added ≡ link_of m ∷ k.links → UndoesName mid new → Knows new b R
  knows_again new one undone = record { links = k.links; root = k.root; stands = undone b.name (link_of m) k.links k.root (subst (λ (ls : List Link). Stands (graph.state_of mid.graph) b.name ls k.root) one after.1); names = k.names }

-- ---- what becomes of the links

pub keeps_same : (old new : View) → new.graph ≡ old.graph → KeepsNames old new
keeps_same old new same base links root h = (root, subst (λ (g : graph.Tables). Stands (graph.state_of g) base links root) (sym same) h)

pub keeps_on : (old mid new : View) → mid.graph ≡ old.graph → KeepsNames mid new → KeepsNames old new
keeps_on old mid new same keeps base links root h = keeps base links root (subst (λ (g : graph.Tables). Stands (graph.state_of g) base links root) (sym same) h)

pub undoes_on : (old mid stopped new : View) → mid.graph ≡ old.graph → IsUntouched mid stopped → UndoesName stopped new → UndoesName old new
undoes_on old mid stopped new same untouched undone base link links root h =
    undone base link links root (subst (λ (s : graph.State). Stands s base (link ∷ links) root) (sym (untouched.graph_is ∙ ap graph.state_of same)) h)

-- ---- how many names are known, and which are not

pub number_known : (chain : View) (b : Base) (R : List Message) → Knows chain b R → IsNumberOf (IsKnown b R) chain.graph.known
number_known chain b R k = subst (IsNumberOf (IsKnown b R)) (length-map k.links (λ (l : Link). l.name) ∙ sym k.stands.known) (number_same (Contains names) (IsKnown b R) (length names) (λ n. (to n, from n)) (number_listed names k.stands.differ))
  where
    names : List Name
    names = map (λ (l : Link). l.name) k.links

    to : (n : Name) → Contains (map (λ (l : Link). l.name) k.links) n → IsKnown b R n
    to n c = (k.names n).0 (mapped_from (λ (l : Link). l.name) k.links n c)

    from : (n : Name) → IsKnown b R n → Contains (map (λ (l : Link). l.name) k.links) n
    from n h = let a = (k.names n).1 h in subst (Contains (map (λ (l : Link). l.name) k.links)) a.2 (contains_map (λ (l : Link). l.name) k.links a.0 a.1)

module _ (chain : View) (b : Base) (R : List Message) (k : Knows chain b R) (name : Name) where
  fresh_name : IsNewName b.name k.links name → graph.standing (graph.state_of chain.graph) name ≡ standing.Unknown
  fresh_name fresh = go (graph.standing (graph.state_of chain.graph) name) refl (k.stands.standings name)
    where
      ended : (names : List Name) → IsChain b.name k.links names → top b.name names ≡ name → ⊥
      ended [] c e = fresh.0 (sym e)
      ended (x ∷ names) c e = fresh.1 (record { name = x; parent = top b.name names }, c.0, e)

      go : (how : Standing) → graph.standing (graph.state_of chain.graph) name ≡ how → IsStanding b.name k.links k.root name how → graph.standing (graph.state_of chain.graph) name ≡ standing.Unknown
      go standing.Unknown e h = e
      go standing.Waiting e waits = absurd (fresh.1 waits.0)
      go (standing.Linked height) e (names, chain_is, is, size, through) = absurd (ended names chain_is is)
      go (standing.Gone height) e (names, chain_is, is, size, out) = absurd (ended names chain_is is)

  pub unknown_is : (graph.standing (graph.state_of chain.graph) name ≡ standing.Unknown) ↔ ((name ≢ b.name) × ¬ (IsKnown b R name))
  unknown_is = (λ e. let fresh = new_name e in (fresh.0, λ h. fresh.1 ((k.names name).1 h)), λ h. fresh_name (h.0, λ a. h.1 ((k.names name).0 a)))
    where
      new_name : graph.standing (graph.state_of chain.graph) name ≡ standing.Unknown → IsNewName b.name k.links name
      new_name e = subst (IsStanding b.name k.links k.root name) e (k.stands.standings name)

-- ---- when a chain is full

pub is_full : (chain : View) (b : Base) (R : List Message) (m : Message) → graph.standing (graph.state_of chain.graph) (name_of m) ≡ standing.Unknown → chain.graph.known ≡ MOST_NAMES → Knows chain b R → IsFull b R m
is_full chain b R m unknown most k =
    let new = (unknown_is chain b R k (name_of m)).0 unknown in
    record { full = subst (IsNumberOf (IsKnown b R)) most (number_known chain b R k); not_base = new.0; new = new.1 }

pub full_is : (chain : View) (b : Base) (R : List Message) (m : Message) → Knows chain b R → IsFull b R m → (graph.standing (graph.state_of chain.graph) (name_of m) ≡ standing.Unknown) × (chain.graph.known ≡ MOST_NAMES)
full_is chain b R m k f = ((unknown_is chain b R k (name_of m)).1 (f.not_base, f.new), one_number (IsKnown b R) chain.graph.known MOST_NAMES (number_known chain b R k) f.full)

-- what is refused where the chain is full is not received there
pub room_left : (chain : View) (m : Message) (r : Result Moved ReceiveRefused) → ((b : Base) (R : List Message) → Knows chain b R → IsFull b R m → r ≡ Err Full) → OnOk r ((b : Base) (R : List Message) → Knows chain b R → ¬ (IsFull b R m))
room_left chain m (Ok moved) h = λ b R k f. let e = h b R k f in cc
room_left chain m (Err refused) h = tt
