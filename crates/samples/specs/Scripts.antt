-- The scripts of the samples, as trees, each below its text.
--
-- Variables are known by their numbers, in the order in which they are declared. `Texts` of Samples.antt says of each script that the text above
-- it here is a text of it.
use Rattle.std.specs.Prelude.{ℕ, ◌-◌, List, [], ◌∷◌, ◌++◌, length, replicate, codes}
use Prim.Native.String.{String}
use Rattle.values.specs.declared.Operator.TheVariants.{Add, Subtract}
use Rattle.syntax.specs.declared.form.Declaration.{Declaration}
use Rattle.syntax.specs.Trees.{Statements, none, then, single, skip, assign, release, write, branch, while, number, variable, apply}
use Rattle.syntax.specs.Scripts.{Script}

-- a name, kept in 15 bytes, with its level
abbrev pub declare : String → ℕ → Declaration
declare w l = record { name = record { length = length (codes w); bytes = codes w ++ replicate (15 - length (codes w)) 0 }; level = l }

abbrev pub script : List Declaration → Statements → Script
script ds l = record { declarations = ds; statements = l }

-- the empty text
abbrev pub empty : Script
empty = script [] none

-- var p : 0; write 0 p;
abbrev pub writing : Script
writing = script (declare "p" 0 ∷ []) (single (write 0 (variable 0)))

-- var h : 1; var p : 0; p := declassify(h); write 0 p;
abbrev pub releasing : Script
releasing = script (declare "h" 1 ∷ declare "p" 0 ∷ []) (then (release 1 (variable 0)) (single (write 0 (variable 1))))

-- var h : 1; if h then write 0 1; else skip; end;
abbrev pub branching : Script
branching = script (declare "h" 1 ∷ []) (single (branch (variable 0) (single (write 0 (number 1))) (single skip)))

-- var h : 1; while h do h := (h - 1); end;
abbrev pub looping : Script
looping = script (declare "h" 1 ∷ []) (single (while (variable 0) (single (assign 0 (apply Subtract (variable 0) (number 1))))))

-- var h : 1; var k : 1; var p : 0; h := k; p := declassify(h); write 0 p;
abbrev pub replacing : Script
replacing =
    script (declare "h" 1 ∷ declare "k" 1 ∷ declare "p" 0 ∷ [])
    (then (assign 0 (variable 1)) (then (release 2 (variable 0)) (single (write 0 (variable 2)))))

-- var h : 1; var p : 0; if h then p := 1; else skip; end; write 0 p;
abbrev pub choosing : Script
choosing =
    script (declare "h" 1 ∷ declare "p" 0 ∷ [])
    (then (branch (variable 0) (single (assign 1 (number 1))) (single skip)) (single (write 0 (variable 1))))

-- var h : 1; var k : 1; var p : 0; if h then k := 1; else skip; end; p := declassify(k); write 0 p;
abbrev pub marking : Script
marking =
    script (declare "h" 1 ∷ declare "k" 1 ∷ declare "p" 0 ∷ [])
    (then (branch (variable 0) (single (assign 1 (number 1))) (single skip)) (then (release 2 (variable 1)) (single (write 0 (variable 2)))))

-- var h : 1; var p : 0; if h then p := declassify(h); else skip; end; write 0 p;
abbrev pub releasing_inside : Script
releasing_inside =
    script (declare "h" 1 ∷ declare "p" 0 ∷ [])
    (then (branch (variable 0) (single (release 1 (variable 0))) (single skip)) (single (write 0 (variable 1))))

-- var k : 1; var g : 0; var p : 0; g := k; p := declassify(g); write 0 p;
abbrev pub guessing : Script
guessing =
    script (declare "k" 1 ∷ declare "g" 0 ∷ declare "p" 0 ∷ [])
    (then (assign 1 (variable 0)) (then (release 2 (variable 1)) (single (write 0 (variable 2)))))

-- var n : 0; while n do write 0 n; n := (n - 1); end;
abbrev pub counting : Script
counting = script (declare "n" 0 ∷ []) (single (while (variable 0) (then (write 0 (variable 0)) (single (assign 0 (apply Subtract (variable 0) (number 1)))))))

-- var h : 1; var p : 0; if h then p := declassify((h + p)); else while p do p := (p - 1); end; end; write 1 p;
abbrev pub nesting : Script
nesting =
    script (declare "h" 1 ∷ declare "p" 0 ∷ [])
    (then (branch (variable 0)
    (single (release 1 (apply Add (variable 0) (variable 1))))
    (single (while (variable 1) (single (assign 1 (apply Subtract (variable 1) (number 1)))))))
    (single (write 1 (variable 1))))

-- write 1 7;
abbrev pub writing_up : Script
writing_up = script [] (single (write 1 (number 7)))

-- write 16 1;
abbrev pub writing_high : Script
writing_high = script [] (single (write 16 (number 1)))

-- write 0 2147483647;
abbrev pub writing_greatest : Script
writing_greatest = script [] (single (write 0 (number 2147483647)))
