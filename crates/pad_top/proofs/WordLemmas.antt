-- A list of one word.
use Rattle.std.proofs.Common.{◌≡◌, ◌≤◌, inl, inr, ℕ, Bool, true, false, nat_eq, List, [], ◌∷◌, length, map, get_or, IsTrue, refl, sym, ap, ◌∙◌, arith}
use Rattle.std.specs.Cmp.Lexicographic.{pointwise, bytes_decides, same_text}
use Rattle.std.proofs.lemmas.Fmt.{decimal_injective}
use Rattle.std.specs.Prelude.{codes, decimal, ◌==◌, ◌≢◌}
use Rattle.pad_top.specs.Words.{IsReplay, AsksLog, IsLog, IsServe, AsksServe, IsGenerate, AsksGenerate, AsksClient, IsCommand}

-- a list of one element maps to one
map-one : {A : Type 0} (f : A → List ℕ) (xs : List A) (x : A) → length xs ≡ 1 → x ≡ get_or xs 0 x → map f xs ≡ f x ∷ []
map-one f [] x one first = absurd (omega arith)
map-one f (y ∷ []) x one first = ap (λ z. f z ∷ []) (sym first)
map-one f (y ∷ z ∷ xs) x one first = absurd (omega arith)

-- a test whether a text is the wanted one
is_wanted : (text want : List ℕ) (same : Bool) → same ≡ pointwise nat_eq text want → (IsTrue same → text ≡ want) × (text ≡ want → IsTrue same)
is_wanted text want true is = (λ holds. same_text text want is, λ e. refl)
is_wanted text want false is = (λ holds. let apart : false ≡ true = holds in cc, λ e. is ∙ (bytes_decides text want).1 e)

-- a test of the only word of a list
pub is_only_word : {A : Type 0} (f : A → List ℕ) (xs : List A) (x : A) (text want : List ℕ) (same : Bool)
    → length xs ≡ 1 → x ≡ get_or xs 0 x → text ≡ f x → same ≡ pointwise nat_eq text want
    → (IsTrue same → map f xs ≡ want ∷ []) × (map f xs ≡ want ∷ [] → IsTrue same)
is_only_word f xs x text want same one first said is =
    let only : map f xs ≡ f x ∷ [] = map-one f xs x one first in
    let test = is_wanted text want same is in
    (λ holds. let e : text ≡ want = test.0 holds in cc, λ e. test.1 cc)

-- a replay asks for no log
pub replay_asks_no_log : (words : List (List ℕ)) → IsReplay words → ¬ (AsksLog words)
replay_asks_no_log words replay asks =
    let both : codes "replay" ∷ [] ≡ codes "log" ∷ asks.1.0 ∷ asks.0 ∷ [] = sym replay ∙ asks.1.1 in
    cc

-- the words name one channel
pub same_channel : (words : List (List ℕ)) (one other : List ℕ) → IsLog words one → IsLog words other → one ≡ other
same_channel words one other first second =
    let both : codes "log" ∷ first.0 ∷ one ∷ [] ≡ codes "log" ∷ second.0 ∷ other ∷ [] = sym first.1 ∙ second.1 in
    cc

-- the words name one number of turns
pub same_turns : (words : List (List ℕ)) (address folder other_address other_folder : List ℕ) (one other : ℕ)
    → IsServe words address folder one → IsServe words other_address other_folder other → one ≡ other
same_turns words address folder other_address other_folder one other first second =
    let both : codes "serve" ∷ address ∷ folder ∷ decimal one ∷ [] ≡ codes "serve" ∷ other_address ∷ other_folder ∷ decimal other ∷ [] = sym first.0 ∙ second.0 in
    let said : decimal one ≡ decimal other = cc in
    let most_one : one ≤ 1000000000 = first.4 in
    let most_other : other ≤ 1000000000 = second.4 in
    decimal_injective one other (omega (arith, most_one)) (omega (arith, most_other)) said

-- words that ask for none of the commands are no command
pub no_command : (words : List (List ℕ)) → ¬ (IsReplay words) → ¬ (AsksLog words) → ¬ (AsksServe words) → ¬ (AsksGenerate words) → ¬ (AsksClient words) → ¬ (IsCommand words)
no_command words no_replay no_log no_server no_generator no_client (inl replay) = no_replay replay
no_command words no_replay no_log no_server no_generator no_client (inr (inl asks)) = no_log asks
no_command words no_replay no_log no_server no_generator no_client (inr (inr (inl asks))) = no_server asks
no_command words no_replay no_log no_server no_generator no_client (inr (inr (inr (inl asks)))) = no_generator asks
no_command words no_replay no_log no_server no_generator no_client (inr (inr (inr (inr asks)))) = no_client asks

-- the words name one number and one count of messages
pub same_messages : (words : List (List ℕ)) (number count other_number other_count : ℕ) → IsGenerate words number count → IsGenerate words other_number other_count
    → (number ≡ other_number) × (count ≡ other_count)
same_messages words number count other_number other_count first second =
    let both : codes "generate" ∷ decimal number ∷ decimal count ∷ [] ≡ codes "generate" ∷ decimal other_number ∷ decimal other_count ∷ [] = sym first.0 ∙ second.0 in
    let numbers : decimal number ≡ decimal other_number = cc in
    let counts : decimal count ≡ decimal other_count = cc in
    let most_one : count ≤ 100000 = first.3 in
    let most_other : other_count ≤ 100000 = second.3 in
    (decimal_injective number other_number first.1 second.1 numbers, decimal_injective count other_count (omega (arith, most_one)) (omega (arith, most_other)) counts)

-- a list of two elements maps to two
pub two_words : {A : Type 0} (f : A → List ℕ) (xs : List A) (x y : A) → length xs ≡ 2 → x ≡ get_or xs 0 x → y ≡ get_or xs 1 y → map f xs ≡ f x ∷ f y ∷ []
two_words f [] x y two first second = absurd (omega arith)
two_words f (a ∷ []) x y two first second = absurd (omega arith)
two_words f (a ∷ b ∷ []) x y two first second = ap (λ w. f w ∷ f b ∷ []) (sym first) ∙ ap (λ w. f x ∷ f w ∷ []) (sym second)
two_words f (a ∷ b ∷ d ∷ xs) x y two first second = absurd (omega arith)

-- a list of three elements maps to three
pub three_words : {A : Type 0} (f : A → List ℕ) (xs : List A) (x y z : A) → length xs ≡ 3 → x ≡ get_or xs 0 x → y ≡ get_or xs 1 y → z ≡ get_or xs 2 z
    → map f xs ≡ f x ∷ f y ∷ f z ∷ []
three_words f [] x y z three first second third = absurd (omega arith)
three_words f (a ∷ []) x y z three first second third = absurd (omega arith)
three_words f (a ∷ b ∷ []) x y z three first second third = absurd (omega arith)
three_words f (a ∷ b ∷ d ∷ []) x y z three first second third =
    ap (λ w. f w ∷ f b ∷ f d ∷ []) (sym first) ∙ ap (λ w. f x ∷ f w ∷ f d ∷ []) (sym second) ∙ ap (λ w. f x ∷ f y ∷ f w ∷ []) (sym third)
three_words f (a ∷ b ∷ d ∷ e ∷ xs) x y z three first second third = absurd (omega arith)

-- a list of four elements maps to four
pub four_words : {A : Type 0} (f : A → List ℕ) (xs : List A) (w x y z : A) → length xs ≡ 4 → w ≡ get_or xs 0 w → x ≡ get_or xs 1 x → y ≡ get_or xs 2 y → z ≡ get_or xs 3 z
    → map f xs ≡ f w ∷ f x ∷ f y ∷ f z ∷ []
four_words f [] w x y z four first second third fourth = absurd (omega arith)
four_words f (a ∷ []) w x y z four first second third fourth = absurd (omega arith)
four_words f (a ∷ b ∷ []) w x y z four first second third fourth = absurd (omega arith)
four_words f (a ∷ b ∷ d ∷ []) w x y z four first second third fourth = absurd (omega arith)
four_words f (a ∷ b ∷ d ∷ e ∷ []) w x y z four first second third fourth =
    ap (λ i. f i ∷ f b ∷ f d ∷ f e ∷ []) (sym first) ∙ ap (λ i. f w ∷ f i ∷ f d ∷ f e ∷ []) (sym second)
    ∙ ap (λ i. f w ∷ f x ∷ f i ∷ f e ∷ []) (sym third) ∙ ap (λ i. f w ∷ f x ∷ f y ∷ f i ∷ []) (sym fourth)
four_words f (a ∷ b ∷ d ∷ e ∷ h ∷ xs) w x y z four first second third fourth = absurd (omega arith)

-- a text that a test found to be the wanted one
pub wanted_text : (text want : List ℕ) (same : Bool) → same ≡ pointwise nat_eq text want → IsTrue same → text ≡ want
wanted_text text want same is holds = (is_wanted text want same is).0 holds

-- a text that a test found not to be empty
pub some_text : (text slice : List ℕ) (test : Bool) → slice ≡ text → test ≡ (length slice == 0) → test ≡ false → text ≢ []
some_text text slice test same is no_test empty = no (sym no_test ∙ is ∙ ap (λ (l : List ℕ). length l == 0) (same ∙ empty))
  where
    no : false ≡ true → ⊥
    no e = cc
