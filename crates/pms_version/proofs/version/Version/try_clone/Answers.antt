use Rattle.std.proofs.Common.{◌∙◌, ◌≡◌, IfOk, subst}
use Rattle.pms_version.specs.Views.{parts_of}
use Rattle.pms_version.proofs.version.Version.try_clone.Goals as goal

pub returns : goal.returns
returns c = subst (λ q. IfOk c.read.result (λ v. v ≡ q)) c.self.view_is (c.read.ensures (parts_of c.self.inside) c.self.invariant.readable.version (c.as_str.ensures ∙ c.self.invariant.text))
