use Rattle.std.proofs.Common.{refl}
use Rattle.std.specs.Coded.{Coded-set, coded_list, coded_ℕ}
use Rattle.vx_file.specs.KeptReaders.{tag_of_footer}
use Rattle.vx_file.proofs.opened_file.VortexFile.segment_source.Goals as goal

-- two proofs of what the place names are one
pub returns : goal.returns
returns g c =
    let file = c.args.self.now in (
      (
        refl,
        λ w i. record {
          footer = file.footer;
          source = w;
          session = file.session;
          metadata = file.metadata;
          caching = file.caching;
          reader = file.reader;
          named = Coded-set (coded_list coded_ℕ) file.reader.tag (tag_of_footer file.footer.content) (c.self-1.given w).0 file.named i;
        },
      ),
      record { lends = tt; value = refl },
    )
