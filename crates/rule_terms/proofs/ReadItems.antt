-- The loops that read the items of an array.
use Rattle.std.proofs.Common.{List, ◌++◌, Result, Ok, Err}

-- what was read, before what the rest reads to
abbrev pub onto : {X E : Type 0} → List X → Result (List X) E → Result (List X) E
onto done (Ok xs) = Ok (done ++ xs)
onto done (Err e) = Err e
