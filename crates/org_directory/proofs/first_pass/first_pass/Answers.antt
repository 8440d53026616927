use Rattle.std.proofs.Common.{Bor, List, ℕ, ◌∙◌, sym, ap, subst, refl, inl, inr, Some, []}
use Rattle.csv.specs.Reading.{Reached, default_config, records, strip_bom}
use Rattle.csv.specs.Records.{fields_of}
use Rattle.csv.proofs.ReadFacts.{rows-end, rows-more}
use Rattle.org_directory.specs.Drafts.{taken_of}
use Rattle.org_directory.specs.Reading.{first_pass, none_taken}
use Rattle.org_directory.proofs.Keeping.{no-rows, pass-empty, pass-ends, pass-fails, pass-more, some-rows}
use Rattle.org_directory.proofs.Rows.{Left, left-all, left-more, left-none}
use Rattle.org_directory.proofs.first_pass.first_pass.Goals as goal

pub loop-item-init : goal.loop-item-init
loop-item-init c =
    let fr = c.from_reader-rdr.ensures in
    let flexible = c.flexible.ensures in
    let headers = c.has_headers.ensures in
    let start = c.into_iter-item-iterator.ensures.into_iter_gives ∙ refl in
    let rdr = c.into_byte_records-item-items.ensures.rdr in
    let left = c.into_byte_records-item-items.ensures.left in
    rw (start, rdr) (
      rw (flexible, headers) at fr.trim ∙ c.new.ensures.trim,
      inr (inr (rw (flexible, headers) at fr.has_headers, fr.headers)),
      left,
      rw (flexible, headers) at fr.config ∙ c.new.ensures.config,
      c.no_drafts-drafts.ensures.kept,
      strip_bom c.args.text.now,
      records default_config (strip_bom c.args.text.now),
      fr.source,
      subst (λ s. Left s (strip_bom c.args.text.now) (records default_config (strip_bom c.args.text.now))) (sym fr.state) (left-all (strip_bom c.args.text.now)),
      ap (λ t. first_pass t (records default_config (strip_bom c.args.text.now))) (sym c.no_drafts-drafts.ensures.none),
    )

pub loop-item-preserved : goal.loop-item-preserved
unfolding Reached
loop-item-preserved c =
    let inv = c.loop-item.invariant in
    let s = rw (c.in-Some.is, c.in-Ok.is) at ((c.next.ensures.steps inv.2 inv.0).0 inv.1) in
    let m = rows-more (λ (s : Bor (List ℕ)). Some s.now) c.loop-item.item-iterator.rdr c.next.new.self.rdr (fields_of c.in-Ok.fields) default_config
    c.loop-item.item-iterator.rdr.state inv.5 inv.5 [] inv.3 inv.7 (refl, refl) s.0 in
    let more = left-more c.loop-item.item-iterator.rdr.state c.next.new.self.rdr.state inv.5 m.0 (fields_of c.in-Ok.fields) inv.6 inv.8 m.2 in (
      s.0.3 ∙ inv.0,
      inl s.1,
      s.2,
      s.0.2 ∙ inv.3,
      c.in-Ok-take_row.ensures.kept,
      m.0,
      more.0,
      m.1,
      more.2,
      pass-more (first_pass none_taken (records default_config (strip_bom c.args.text.now))) (taken_of c.loop-item.drafts) (taken_of c.take_row.new.drafts)
          (fields_of c.in-Ok.fields) inv.6 more.0 inv.9 more.1 c.in-Ok-take_row.ensures.takes,
    )

pub returns-in-Err-take_row-clause-takes : goal.returns-in-Err-take_row-clause-takes
unfolding Reached
returns-in-Err-take_row-clause-takes c =
    let inv = c.loop-item.invariant in
    let s = rw (c.in-Some.is, c.in-Ok.is) at ((c.next.ensures.steps inv.2 inv.0).0 inv.1) in
    let m = rows-more (λ (s : Bor (List ℕ)). Some s.now) c.loop-item.item-iterator.rdr c.next.new.self.rdr (fields_of c.in-Ok.fields) default_config
    c.loop-item.item-iterator.rdr.state inv.5 inv.5 [] inv.3 inv.7 (refl, refl) s.0 in
    let more = left-more c.loop-item.item-iterator.rdr.state c.next.new.self.rdr.state inv.5 m.0 (fields_of c.in-Ok.fields) inv.6 inv.8 m.2 in
    pass-fails (first_pass none_taken (records default_config (strip_bom c.args.text.now))) (taken_of c.loop-item.drafts) c.in-Err-take_row.fault
    (fields_of c.in-Ok.fields) inv.6 more.0 inv.9 more.1 c.in-Err-take_row.ensures.takes

pub returns-then-drafts-eq0-clause-takes : goal.returns-then-drafts-eq0-clause-takes
returns-then-drafts-eq0-clause-takes c =
    let inv = c.loop-item.invariant in
    let s = rw c.in-None.is at ((c.next.ensures.steps inv.2 inv.0).0 inv.1) in
    let none = left-none c.loop-item.item-iterator.rdr.state inv.5 inv.6 inv.8
    (rows-end (λ (s : Bor (List ℕ)). Some s.now) c.loop-item.item-iterator.rdr c.next.new.self.rdr [] default_config inv.5 inv.3 inv.7 s) in
    pass-empty (first_pass none_taken (records default_config (strip_bom c.args.text.now))) (taken_of c.loop-item.drafts) inv.6 inv.9 none
    (no-rows c.loop-item.drafts.rows c.if-drafts-eq0.true)

pub returns-clause-takes : goal.returns-clause-takes
returns-clause-takes c =
    let inv = c.loop-item.invariant in
    let s = rw c.in-None.is at ((c.next.ensures.steps inv.2 inv.0).0 inv.1) in
    let none = left-none c.loop-item.item-iterator.rdr.state inv.5 inv.6 inv.8
    (rows-end (λ (s : Bor (List ℕ)). Some s.now) c.loop-item.item-iterator.rdr c.next.new.self.rdr [] default_config inv.5 inv.3 inv.7 s) in
    pass-ends (first_pass none_taken (records default_config (strip_bom c.args.text.now))) (taken_of c.loop-item.drafts) inv.6 inv.9 none
    (some-rows c.loop-item.drafts.rows c.if-drafts-eq0.false)
