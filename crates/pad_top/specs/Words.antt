-- The words of a command line.
use Rattle.std.specs.Prelude.{◌≡◌, ◌≢◌, ◌≤◌, ◌<◌, ◌^◌, ◌⊎◌, ℕ, List, [], ◌∷◌, codes, decimal}
use Rattle.pad_text.specs.Digits.{IsDigits}
use Rattle.pad_generator.specs.declared.generator.TheConstants.{MOST_MESSAGES}
use Rattle.pad_top.specs.declared.words.TheConstants.{MOST_TURNS}

-- the words ask for a replay
abbrev pub IsReplay : List (List ℕ) → Type 0
IsReplay words = words ≡ codes "replay" ∷ []

-- the words ask for the log of the channel with these digits, in a folder
abbrev pub IsLog : (words : List (List ℕ)) → (channel : List ℕ) → Type 0
IsLog words channel = (folder : List ℕ) × (words ≡ codes "log" ∷ folder ∷ channel ∷ []) × (folder ≢ []) × IsDigits 32 channel

-- the words ask for the log of some channel
abbrev pub AsksLog : List (List ℕ) → Type 0
AsksLog words = (channel : List ℕ) × IsLog words channel

-- the words ask to serve the channels in a folder at an address, for so many turns
abbrev pub IsServe : (words : List (List ℕ)) → (address folder : List ℕ) → (turns : ℕ) → Type 0
IsServe words address folder turns = (words ≡ codes "serve" ∷ address ∷ folder ∷ decimal turns ∷ []) × (address ≢ []) × (folder ≢ []) × (1 ≤ turns) × (turns ≤ MOST_TURNS)

-- the words ask to serve
abbrev pub AsksServe : List (List ℕ) → Type 0
AsksServe words = (address folder : List ℕ) × (turns : ℕ) × IsServe words address folder turns

-- the words ask to generate so many messages of a number
abbrev pub IsGenerate : (words : List (List ℕ)) → (number count : ℕ) → Type 0
IsGenerate words number count = (words ≡ codes "generate" ∷ decimal number ∷ decimal count ∷ []) × (number < 2 ^ 64) × (1 ≤ count) × (count ≤ MOST_MESSAGES)

-- the words ask to generate messages
abbrev pub AsksGenerate : List (List ℕ) → Type 0
AsksGenerate words = (number count : ℕ) × IsGenerate words number count

-- the words ask for a client of the server at an address
abbrev pub IsClient : (words : List (List ℕ)) → (address : List ℕ) → Type 0
IsClient words address = (words ≡ codes "client" ∷ address ∷ []) × (address ≢ [])

-- the words ask for a client
abbrev pub AsksClient : List (List ℕ) → Type 0
AsksClient words = (address : List ℕ) × IsClient words address

-- the words ask for no folder
abbrev pub AsksNoFolder : List (List ℕ) → Type 0
AsksNoFolder words = ¬ (AsksLog words) × ¬ (AsksServe words)

-- the words ask for a replay, or for no command
abbrev pub AsksNoOther : List (List ℕ) → Type 0
AsksNoOther words = ¬ (AsksLog words) × ¬ (AsksServe words) × ¬ (AsksGenerate words) × ¬ (AsksClient words)

-- the words ask for a command
abbrev pub IsCommand : List (List ℕ) → Type 0
IsCommand words = IsReplay words ⊎ (AsksLog words ⊎ (AsksServe words ⊎ (AsksGenerate words ⊎ AsksClient words)))
