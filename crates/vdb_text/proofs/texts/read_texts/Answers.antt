use Rattle.std.proofs.Common.{◌∙◌, List, ap, ℕ}
use Rattle.pkg_state.specs.declared.class.Class.TheVariants.{Bdepend, Depend, Idepend, Pdepend, Rdepend}
use Rattle.file_tree.specs.Disk.{Map, Story}
use Rattle.vdb_law.specs.Fields.{eapi, flags, known, needs, required, slots}
use Rattle.vdb_text.specs.Telling.{texts_at}
use Rattle.vdb_text.proofs.Files.{all_read, same_text_of}
use Rattle.vdb_text.proofs.texts.read_texts.Goals as goal

pub returns-clause-texts : goal.returns-clause-texts
returns-clause-texts g c t =
    let m : Map = (g.T.Tree.story c.args.tree.now).now.holds in
    let text : List ℕ = c.args.folder.now in
    let holds : Story → Map = λ s. s.now.holds in
    let s1 = ap holds (c.read_text.ensures.same t) in
    let s2 = ap holds (c.read_text-2.ensures.same t) ∙ s1 in
    let s3 = ap holds (c.read_text-3.ensures.same t) ∙ s2 in
    let s4 = ap holds (c.read_text-4.ensures.same t) ∙ s3 in
    let s5 = ap holds (c.read_text-5.ensures.same t) ∙ s4 in
    let s6 = ap holds (c.read_text-6.ensures.same t) ∙ s5 in
    let s7 = ap holds (c.read_text-7.ensures.same t) ∙ s6 in
    let s8 = ap holds (c.read_text-8.ensures.same t) ∙ s7 in
    let s9 = ap holds (c.read_text-9.ensures.same t) ∙ s8 in
    let s10 = ap holds (c.read_text-10.ensures.same t) ∙ s9 in
    all_read (record {
      contents = c.in_ok-contents.contents;
      eapi = c.in_ok-eapi.eapi;
      slot = c.in_ok-slot.slot;
      enabled = c.in_ok-enabled.enabled;
      iuse = c.in_ok-iuse.iuse;
      required_use = c.in_ok-required_use.required_use;
      rdepend = c.in_ok-rdepend.rdepend;
      pdepend = c.in_ok-pdepend.pdepend;
      depend = c.in_ok-depend.depend;
      bdepend = c.in_ok-bdepend.bdepend;
      idepend = c.in_ok-idepend.idepend;
    }) (texts_at m text) (record {
      contents-is = c.in_ok-contents.ensures.text t;
      eapi-is = same_text_of m (holds (g.T.Tree.story c.read_text.new.tree)) text eapi c.in_ok-eapi.eapi s1 (c.in_ok-eapi.ensures.text t);
      slot-is = same_text_of m (holds (g.T.Tree.story c.read_text-2.new.tree)) text slots c.in_ok-slot.slot s2 (c.in_ok-slot.ensures.text t);
      enabled-is = same_text_of m (holds (g.T.Tree.story c.read_text-3.new.tree)) text flags c.in_ok-enabled.enabled s3 (c.in_ok-enabled.ensures.text t);
      iuse-is = same_text_of m (holds (g.T.Tree.story c.read_text-4.new.tree)) text known c.in_ok-iuse.iuse s4 (c.in_ok-iuse.ensures.text t);
      required-is = same_text_of m (holds (g.T.Tree.story c.read_text-5.new.tree)) text required c.in_ok-required_use.required_use s5 (c.in_ok-required_use.ensures.text t);
      rdepend-is = same_text_of m (holds (g.T.Tree.story c.read_text-6.new.tree)) text (needs Rdepend) c.in_ok-rdepend.rdepend s6 (c.in_ok-rdepend.ensures.text t);
      pdepend-is = same_text_of m (holds (g.T.Tree.story c.read_text-7.new.tree)) text (needs Pdepend) c.in_ok-pdepend.pdepend s7 (c.in_ok-pdepend.ensures.text t);
      depend-is = same_text_of m (holds (g.T.Tree.story c.read_text-8.new.tree)) text (needs Depend) c.in_ok-depend.depend s8 (c.in_ok-depend.ensures.text t);
      bdepend-is = same_text_of m (holds (g.T.Tree.story c.read_text-9.new.tree)) text (needs Bdepend) c.in_ok-bdepend.bdepend s9 (c.in_ok-bdepend.ensures.text t);
      idepend-is = same_text_of m (holds (g.T.Tree.story c.read_text-10.new.tree)) text (needs Idepend) c.in_ok-idepend.idepend s10 (c.in_ok-idepend.ensures.text t);
    })
