-- Why a text has no list of tokens: it is too long, it has a fault, or memory was wanting.
use Rattle.std.specs.Prelude.{◌≡◌, ℕ, ◌<◌, ◌≤◌, ◌⊎◌, List, length}
use Rattle.refusals.specs.declared.Reason.TheVariants.{TextTooLong}
use Rattle.letters.specs.declared.texts.ScanError.{ScanError}
use Rattle.letters.specs.declared.texts.ScanError.TheVariants.{Refused, NoMemory}
use Rattle.letters.specs.Texts.{Piece, MadeOf, faulty}

abbrev pub Failed : List ℕ → ScanError → Type 0
Failed text (Refused e) =
    ((1048576 < length text) × (e.reason ≡ TextTooLong) × (e.place ≡ 0))
    ⊎ ((length text ≤ 1048576) × ((ps : List Piece) × MadeOf 0 text ps (faulty e.reason e.place)))
Failed text NoMemory = Unit {0}
