-- The work on files, one after another.
use Rattle.std.proofs.Common.{◌≡◌, ℕ, ◌+◌, Bool, true, false, cond, List, [], ◌∷◌, ◌++◌, refl, ap, ◌∙◌, sym, subst, inl, inr}
use Rattle.std.specs.Prelude.{IsTrue, IsSome, bytes_eq, Option, Some, None, Result, Ok, Err, unwrap_or, is_some}
use Rattle.std.specs.List.{flat_map}
use Rattle.std.proofs.lemmas.List.{append-nil}
use Rattle.std.proofs.lemmas.Slice.Eq.{bytes_eq-Decides}
use Rattle.std.proofs.lemmas.List.Concat.{flat_map-append}
use Rattle.port_io.specs.Told.{Gave, Tells as Tells'}
use Rattle.mail_submission.specs.Submission.{Submitted}
use Rattle.mail_submission.specs.declared.intake.IntakeFault.{IntakeFault}
use Rattle.mail_submission.specs.declared.intake.NumberFault.{NumberFault}
use Rattle.mail_submission.specs.declared.intake.IntakeStep.{IntakeStep}
use Rattle.mail_submission.specs.declared.intake.IntakeStep.TheVariants as steps
use Rattle.pickup_box.specs.FileNames.{begun_stem, new_stem, is_begun, begun_name, bad_name}
use Rattle.pickup_box.specs.Folder.{File, Folder, bytes_in, Has, Tells, Stays}
use Rattle.pickup_box.specs.PickupOf.{pickup_of}
use Rattle.pickup_box.specs.Works.{Work, Did, HaveBytes, Steps, Becomes, Submits, Begun, Numbered, asked, ticked, numbers, submits, ticks, moved, put, behind, behind_all, mark_of, stem_of, fate_of}
use Rattle.pickup_box.specs.Parts.{Begins, Stands, Given, Hands, Keeps, KeepsGiven, Handed, Took}
use Rattle.pickup_box.specs.declared.taking.Halt.{Halt}
use Rattle.pickup_box.specs.declared.taking.Fate.{Fate}
use Rattle.pickup_box.specs.declared.taking.Fate.TheVariants as fates

pub steps_join : {I : Type 0} (gives : I → IntakeStep → I → Type 0) (a b c : I) (xs ys : List IntakeStep) → Steps gives a xs b → Steps gives b ys c → Steps gives a (xs ++ ys) c
steps_join gives a b c [] ys e h = subst (λ x. Steps gives x ys c) (sym e) h
steps_join gives a b c (x ∷ xs) ys g h = (g.0, g.1, steps_join gives g.0 b c xs ys g.2 h)

Gave-same : (old mid new : ℕ → Option ℕ) (ms : List ℕ) → ((k : ℕ) → mid k ≡ old k) → Gave mid new ms → Gave old new ms
Gave-same old mid new [] e g = λ k. g k ∙ e k
Gave-same old mid new (m ∷ ms) e g =
    (subst (λ (o : Option ℕ). Tells' o m) (e 0) g.0, Gave-same (λ k. old (k + 1)) (λ k. mid (k + 1)) new ms (λ k. e (k + 1)) g.1)

pub Gave-then : (old mid new : ℕ → Option ℕ) (ms ms' : List ℕ) → Gave old mid ms → Gave mid new ms' → Gave old new (ms ++ ms')
Gave-then old mid new [] ms' one two = Gave-same old mid new ms' one two
Gave-then old mid new (m ∷ ms) ms' one two = (one.0, Gave-then (λ k. old (k + 1)) mid new ms ms' one.1 two)

still : (d e : Folder) → e.told ≡ d.told → IsTrue d.told → IsTrue e.told
still d e same t = subst IsTrue (sym same) t

-- one change, and another behind it
pub Becomes-then : (f g : (List ℕ → Option (List ℕ)) → List ℕ → Option (List ℕ)) (d e h : Folder) → Tells (Becomes f) d e → Tells (Becomes g) e h → Tells (Becomes (λ files. g (f files))) d h
Becomes-then f g d e h one two = record {
  told = two.told ∙ one.told;
  files = λ t n. two.files (still d e one.told t) n ∙ ap (λ (files : List ℕ → Option (List ℕ)). g files n) (λ i m. one.files t m i);
}

pub Becomes-stays : (f : (List ℕ → Option (List ℕ)) → List ℕ → Option (List ℕ)) (d e h : Folder) → Tells Stays d e → Tells (Becomes f) e h → Tells (Becomes f) d h
Becomes-stays f d e h one two = record {
  told = two.told ∙ one.told;
  files = λ t n. two.files (still d e one.told t) n ∙ ap (λ (files : List File). f (bytes_in files) n) (one.files t);
}

pub Becomes-kept : (f : (List ℕ → Option (List ℕ)) → List ℕ → Option (List ℕ)) (d e h : Folder) → Tells (Becomes f) d e → Tells Stays e h → Tells (Becomes f) d h
Becomes-kept f d e h one two = record {
  told = two.told ∙ one.told;
  files = λ t n. ap (λ (files : List File). bytes_in files n) (two.files (still d e one.told t)) ∙ one.files t n;
}

pub Stays-then : (d e h : Folder) → Tells Stays d e → Tells Stays e h → Tells Stays d h
Stays-then d e h one two = record {
  told = two.told ∙ one.told;
  files = λ t. two.files (still d e one.told t) ∙ one.files t;
}

-- files that stay are changed by a change of nothing
pub Becomes-same : (f : (List ℕ → Option (List ℕ)) → List ℕ → Option (List ℕ)) (d e : Folder) → ((files : List ℕ → Option (List ℕ)) (n : List ℕ) → f files n ≡ files n) → Tells Stays d e → Tells (Becomes f) d e
Becomes-same f d e nothing one = record {
  told = one.told;
  files = λ t n. ap (λ (files : List File). bytes_in files n) (one.files t) ∙ sym (nothing (bytes_in d.files) n);
}

pub Becomes-as : (f g : (List ℕ → Option (List ℕ)) → List ℕ → Option (List ℕ)) (d e : Folder) → ((files : List ℕ → Option (List ℕ)) (n : List ℕ) → g files n ≡ f files n) → Tells (Becomes f) d e → Tells (Becomes g) d e
Becomes-as f g d e same one = record { told = one.told; files = λ t n. one.files t n ∙ sym (same (bytes_in d.files) n) }

pub Has-stays : (name : List ℕ) (d e : Folder) → Tells Stays d e → Has name d → Has name e
Has-stays name d e one h = λ t.
    (let before : IsTrue d.told = subst IsTrue one.told t in
    subst (λ (files : List File). IsSome (bytes_in files name)) (sym (one.files before)) (h before))

behind-join : (xs ys : List Work) (files : List ℕ → Option (List ℕ)) → behind_all (xs ++ ys) files ≡ behind_all ys (behind_all xs files)
behind-join [] ys files = refl
behind-join (x ∷ xs) ys files = behind-join xs ys (behind x files)

HaveBytes-push : (files : List File) (ws : List Work) (w : Work) → HaveBytes files ws → bytes_in files w.name ≡ Some w.bytes → HaveBytes files (ws ++ w ∷ [])
HaveBytes-push files [] w h e = (e, tt)
HaveBytes-push files (x ∷ ws) w h e = (h.0, HaveBytes-push files ws w h.1 e)

pub Did-none : {I : Type 0} (gives : I → IntakeStep → I → Type 0) (a : I) (clock : ℕ → Option ℕ) (d : Folder) → Did gives a a clock clock d d []
Did-none gives a clock d = record { steps = refl; clock = λ k. refl; bytes = λ t. tt; folder = record { told = refl; files = λ t n. refl } }

pub Did-push : {I : Type 0} (gives : I → IntakeStep → I → Type 0) (a b c : I) (old mid new : ℕ → Option ℕ) (d e h : Folder) (ws : List Work) (w : Work) →
    Did gives a b old mid d e ws → Did gives b c mid new e h (w ∷ []) → (IsTrue d.told → bytes_in e.files w.name ≡ bytes_in d.files w.name) → Did gives a c old new d h (ws ++ w ∷ [])
Did-push gives a b c old mid new d e h ws w one two same = record {
  steps = subst (λ (ss : List IntakeStep). Steps gives a ss c) (sym (flat_map-append asked ws (w ∷ []))) (steps_join gives a b c (flat_map asked ws) (flat_map asked (w ∷ [])) one.steps two.steps);
  clock = subst (λ (ms : List ℕ). Gave old new ms) (sym (flat_map-append ticked ws (w ∷ []))) (Gave-then old mid new (flat_map ticked ws) (flat_map ticked (w ∷ [])) one.clock two.clock);
  bytes = λ t. HaveBytes-push d.files ws w (one.bytes t) (sym (same t) ∙ (two.bytes (still d e one.folder.told t)).0);
  folder = Becomes-as (λ files. behind_all (w ∷ []) (behind_all ws files)) (behind_all (ws ++ w ∷ [])) d h (λ files n. ap (λ (f : List ℕ → Option (List ℕ)). f n) (behind-join ws (w ∷ []) files))
      (Becomes-then (behind_all ws) (behind_all (w ∷ [])) d e h one.folder two.folder);
}

same_bytes : (m n : List ℕ) → bytes_eq m n ≡ true → m ≡ n
same_bytes m n h = (bytes_eq-Decides m n).0 h

-- a file that gets its own name
moved-self : (name : List ℕ) (files : List ℕ → Option (List ℕ)) (n : List ℕ) → moved name name files n ≡ files n
moved-self name files n = by (bytes_eq n name) refl
  where
    by : (t : Bool) → bytes_eq n name ≡ t → cond t (files name) (cond t None (files n)) ≡ files n
    by true e = ap files (sym (same_bytes n name e))
    by false e = refl

mark_begun : (name : List ℕ) (k : ℕ) → is_begun name ≡ true → mark_of name k ≡ name
mark_begun name k h = ap (λ t. cond t name (begun_name (stem_of name) k)) h

mark_new : (name : List ℕ) (k : ℕ) → is_begun name ≡ false → mark_of name k ≡ begun_name (stem_of name) k
mark_new name k h = ap (λ t. cond t name (begun_name (stem_of name) k)) h

numbers_begun : (name : List ℕ) (answer : Result ℕ NumberFault) → is_begun name ≡ true → numbers name answer ≡ []
numbers_begun name answer h = ap (λ t. cond t [] (steps.NextNumber answer ∷ [])) h

numbers_new : (name : List ℕ) (answer : Result ℕ NumberFault) → is_begun name ≡ false → numbers name answer ≡ steps.NextNumber answer ∷ []
numbers_new name answer h = ap (λ t. cond t [] (steps.NextNumber answer ∷ [])) h

-- A file under its mark: how it came to that name, and what of it was asked before.
pub record Under {I : Type 0} (gives : I → IntakeStep → I → Type 0) (a b : I) (d e : Folder) (name mark stem : List ℕ) : Type 0 where
  pub number : ℕ
  pub is_mark : mark ≡ mark_of name number
  pub is_stem : stem ≡ stem_of name
  pub steps : Steps gives a (numbers name (Ok number)) b
  pub folder : Tells (Becomes (moved name mark)) d e
  pub bytes : IsTrue d.told → bytes_in e.files mark ≡ bytes_in d.files name

moved_there : (name mark : List ℕ) (files : List ℕ → Option (List ℕ)) → moved name mark files mark ≡ files name
moved_there name mark files = ap (λ t. cond t (files name) (cond (bytes_eq mark name) None (files mark))) ((bytes_eq-Decides mark mark).1 refl)

pub under_begun : {I : Type 0} (gives : I → IntakeStep → I → Type 0) (a : I) (d : Folder) (name stem : List ℕ) → begun_stem name ≡ Some stem → Under gives a a d d name name stem
under_begun gives a d name stem e =
    let begun : is_begun name ≡ true = ap is_some e in record {
      number = 0;
      is_mark = sym (mark_begun name 0 begun);
      is_stem = sym (ap (λ o. unwrap_or o (unwrap_or (new_stem name) [])) e);
      steps = subst (λ (ss : List IntakeStep). Steps gives a ss a) (sym (numbers_begun name (Ok 0) begun)) refl;
      folder = record { told = refl; files = λ t n. sym (moved-self name (bytes_in d.files) n) };
      bytes = λ t. refl;
    }

pub under_new : {I : Type 0} (gives : I → IntakeStep → I → Type 0) (a b : I) (d e : Folder) (name stem mark : List ℕ) → begun_stem name ≡ None → stem ≡ unwrap_or (new_stem name) [] →
    Begins gives a b d e name stem (Ok mark) → Under gives a b d e name mark stem
under_new gives a b d e name stem mark none is began =
    let begun : is_begun name ≡ false = ap is_some none in
    let same : stem ≡ stem_of name = is ∙ sym (ap (λ o. unwrap_or o (unwrap_or (new_stem name) [])) none) in record {
      number = began.0;
      is_mark = began.2 ∙ ap (λ s. begun_name s began.0) same ∙ sym (mark_new name began.0 begun);
      is_stem = same;
      steps = subst (λ (ss : List IntakeStep). Steps gives a ss b) (sym (numbers_new name (Ok began.0) begun)) (b, began.1, refl);
      folder = began.3;
      bytes = λ t. began.3.files t mark ∙ moved_there name mark (bytes_in d.files);
    }

pub under_has : {I : Type 0} (gives : I → IntakeStep → I → Type 0) (a b : I) (d e : Folder) (name mark stem : List ℕ) → Under gives a b d e name mark stem → Has name d → Has mark e
under_has gives a b d e name mark stem u h = λ t.
    (let before : IsTrue d.told = subst IsTrue u.folder.told t in
    subst (λ (o : Option (List ℕ)). IsSome o) (sym (u.bytes before)) (h before))

-- what a file stands for under its mark
of_mark : {X : Type 0} (f : Option Submitted → X) (name mark bytes : List ℕ) (number : ℕ) → mark ≡ mark_of name number → f (pickup_of mark bytes) ≡ f (pickup_of (mark_of name number) bytes)
of_mark f name mark bytes number e = ap (λ m. f (pickup_of m bytes)) e

pub took_done : {I : Type 0} (gives : I → IntakeStep → I → Type 0) (a m b : I) (old new : ℕ → Option ℕ) (d f e : Folder) (name mark stem : List ℕ) (what : Fate) →
    Under gives a m d f name mark stem → Hands gives m b old new f e mark stem what → Took gives a b old new d e name (Ok what)
took_done gives a m b old new d f e name mark stem what u h =
    let w : Work = record { name = name; bytes = h.bytes; number = u.number; moment = h.moment; accepted = h.accepted } in (
      w,
      refl,
      h.is_fate ∙ of_mark (λ o. fate_of o h.accepted) name mark h.bytes u.number u.is_mark,
      record {
        steps = subst (λ (ss : List IntakeStep). Steps gives a ss b) (sym (append-nil (asked w)))
            (steps_join gives a m b (numbers name (Ok u.number)) (submits (pickup_of (mark_of name u.number) h.bytes) h.moment (Ok h.accepted)) u.steps
            (subst (λ (ss : List IntakeStep). Steps gives m ss b) (of_mark (λ o. submits o h.moment (Ok h.accepted)) name mark h.bytes u.number u.is_mark) h.steps));
        clock = subst (λ (ms : List ℕ). Gave old new ms) (sym (append-nil (ticked w))) (subst (λ (ms : List ℕ). Gave old new ms) (of_mark (λ o. ticks o h.moment) name mark h.bytes u.number u.is_mark) h.clock);
        bytes = λ t. (sym (u.bytes t) ∙ h.are_bytes (still d f u.folder.told t), tt);
        folder = Becomes-as (λ files. put (pickup_of mark h.bytes) mark stem (moved name mark files)) (behind_all (w ∷ [])) d e
            (λ files n. ap (λ k. put (pickup_of k h.bytes) k (stem_of name) (moved name k files) n) (sym u.is_mark) ∙ ap (λ s. put (pickup_of mark h.bytes) mark s (moved name mark files) n) (sym u.is_stem))
            (Becomes-then (moved name mark) (put (pickup_of mark h.bytes) mark stem) d f e u.folder h.folder);
      },
    )

pub took_kept : {I : Type 0} (gives : I → IntakeStep → I → Type 0) (a m b : I) (old new : ℕ → Option ℕ) (d f e : Folder) (name mark stem : List ℕ) (halt : Halt) →
    Under gives a m d f name mark stem → Keeps m b old new f e halt → Took gives a b old new d e name (Err halt)
took_kept gives a m b old new d f e name mark stem halt u k = record {
  stop = Begun u.number;
  steps = subst (λ (x : _). Steps gives a (numbers name (Ok u.number)) x) k.intake u.steps;
  clock = k.clock;
  bytes = tt;
  folder = subst (λ s. Tells (Becomes (moved name s)) d e) u.is_mark (Becomes-kept (moved name mark) d f e u.folder k.folder);
  why = k.own;
}

pub took_given : {I : Type 0} (gives : I → IntakeStep → I → Type 0) (a m b : I) (old new : ℕ → Option ℕ) (d f e : Folder) (name mark stem : List ℕ) (halt : Halt) →
    Under gives a m d f name mark stem → KeepsGiven gives m b old new f e mark halt → Took gives a b old new d e name (Err halt)
took_given gives a m b old new d f e name mark stem halt u k = record {
  stop = Submits u.number k.bytes k.moment k.answer;
  steps = steps_join gives a m b (numbers name (Ok u.number)) (submits (pickup_of (mark_of name u.number) k.bytes) k.moment k.answer) u.steps
      (subst (λ (ss : List IntakeStep). Steps gives m ss b) (of_mark (λ o. submits o k.moment k.answer) name mark k.bytes u.number u.is_mark) k.steps);
  clock = subst (λ (ms : List ℕ). Gave old new ms) (of_mark (λ o. ticks o k.moment) name mark k.bytes u.number u.is_mark) k.clock;
  bytes = λ t. sym (u.bytes t) ∙ k.are_bytes (still d f u.folder.told t);
  folder = subst (λ s. Tells (Becomes (moved name s)) d e) u.is_mark (Becomes-kept (moved name mark) d f e u.folder k.folder);
  why = (subst (λ s. IsSome (pickup_of s k.bytes)) u.is_mark k.some, k.halts);
}

pub took : {I : Type 0} (gives : I → IntakeStep → I → Type 0) (a m b : I) (old new : ℕ → Option ℕ) (d f e : Folder) (name mark stem : List ℕ) (result : Result Fate Halt) →
    Under gives a m d f name mark stem → Handed gives m b old new f e mark stem result → Took gives a b old new d e name result
took gives a m b old new d f e name mark stem (Ok what) u h = took_done gives a m b old new d f e name mark stem what u h
took gives a m b old new d f e name mark stem (Err halt) u (inl k) = took_kept gives a m b old new d f e name mark stem halt u k
took gives a m b old new d f e name mark stem (Err halt) u (inr k) = took_given gives a m b old new d f e name mark stem halt u k

pub took_unbegun : {I : Type 0} (gives : I → IntakeStep → I → Type 0) (a b : I) (clock : ℕ → Option ℕ) (d e : Folder) (name stem : List ℕ) (halt : Halt) → begun_stem name ≡ None →
    Begins gives a b d e name stem (Err halt) → Took gives a b clock clock d e name (Err halt)
took_unbegun gives a b clock d e name stem halt none began = record {
  stop = Numbered began.0;
  steps = (b, began.1, refl);
  clock = λ k. refl;
  bytes = tt;
  folder = record { told = began.3.told; files = λ t n. ap (λ (files : List File). bytes_in files n) (began.3.files t) };
  why = (ap is_some none, began.2);
}

hands_made : {I : Type 0} (gives : I → IntakeStep → I → Type 0) (a b : I) (old new : ℕ → Option ℕ) (d e h : Folder) (mark stem : List ℕ) (s : Submitted) (result : Result Fate Halt) →
    Stands d e mark (Ok (Some s)) → Given gives a b old new e h mark s result → Handed gives a b old new d h mark stem result
hands_made gives a b old new d e h mark stem s (Ok what) stands g = record {
  bytes = stands.0;
  moment = g.moment;
  accepted = g.accepted;
  steps = subst (λ (o : Option Submitted). Steps gives a (submits o g.moment (Ok g.accepted)) b) stands.2 (b, g.step, refl);
  clock = subst (λ (o : Option Submitted). Gave old new (ticks o g.moment)) stands.2 g.clock;
  are_bytes = stands.1;
  folder = subst (λ (o : Option Submitted). Tells (Becomes (put o mark stem)) d h) stands.2 (Becomes-stays (put (Some s) mark stem) d e h stands.3 g.folder);
  is_fate = g.is_fate ∙ ap (λ (o : Option Submitted). fate_of o g.accepted) stands.2;
}
hands_made gives a b old new d e h mark stem s (Err halt) stands g = inr (record {
  bytes = stands.0;
  moment = g.moment;
  answer = g.answer;
  steps = subst (λ (o : Option Submitted). Steps gives a (submits o g.moment g.answer) b) stands.2 (b, g.step, refl);
  clock = subst (λ (o : Option Submitted). Gave old new (ticks o g.moment)) stands.2 g.clock;
  are_bytes = stands.1;
  folder = Stays-then d e h stands.3 g.folder;
  some = subst (λ (o : Option Submitted). IsSome o) stands.2 (some_is s);
  halts = g.halts;
})
  where
    some_is : (s : Submitted) → IsSome (Some s)
    some_is s = refl

hands_none : {I : Type 0} (gives : I → IntakeStep → I → Type 0) (a : I) (clock : ℕ → Option ℕ) (d e h : Folder) (mark stem : List ℕ) →
    Stands d e mark (Ok None) → Tells (Becomes (moved mark (bad_name stem))) e h → Hands gives a a clock clock d h mark stem fates.Bad
hands_none gives a clock d e h mark stem stands moves = record {
  bytes = stands.0;
  moment = 0;
  accepted = record { number = 0; repeat = false };
  steps = subst (λ (o : Option Submitted). Steps gives a (submits o 0 (Ok (record { number = 0; repeat = false }))) a) stands.2 refl;
  clock = subst (λ (o : Option Submitted). Gave clock clock (ticks o 0)) stands.2 (λ k. refl);
  are_bytes = stands.1;
  folder = subst (λ (o : Option Submitted). Tells (Becomes (put o mark stem)) d h) stands.2 (Becomes-stays (moved mark (bad_name stem)) d e h stands.3 moves);
  is_fate = ap (λ (o : Option Submitted). fate_of o (record { number = 0; repeat = false })) stands.2;
}

pub hands_given : {I : Type 0} (gives : I → IntakeStep → I → Type 0) (a b : I) (old new : ℕ → Option ℕ) (d e h : Folder) (mark stem : List ℕ) (made : Option Submitted) (s : Submitted) (result : Result Fate Halt) →
    made ≡ Some s → Stands d e mark (Ok made) → Given gives a b old new e h mark s result → Handed gives a b old new d h mark stem result
hands_given gives a b old new d e h mark stem made s result is stands =
    hands_made gives a b old new d e h mark stem s result (subst (λ (o : Option Submitted). Stands d e mark (Ok o)) is stands)

pub hands_bad : {I : Type 0} (gives : I → IntakeStep → I → Type 0) (a : I) (clock : ℕ → Option ℕ) (d e h : Folder) (mark stem : List ℕ) (made : Option Submitted) →
    made ≡ None → Stands d e mark (Ok made) → Tells (Becomes (moved mark (bad_name stem))) e h → Hands gives a a clock clock d h mark stem fates.Bad
hands_bad gives a clock d e h mark stem made is stands =
    hands_none gives a clock d e h mark stem (subst (λ (o : Option Submitted). Stands d e mark (Ok o)) is stands)
