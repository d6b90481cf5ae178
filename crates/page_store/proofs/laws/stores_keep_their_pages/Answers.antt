use Rattle.page_store.proofs.Lawful.{put_holds_the_page, fetch_after_put, emptied_holds_nothing, other_slots_stay, sizes_stay, refusals_change_nothing}
use Rattle.page_store.proofs.laws.stores_keep_their_pages.Goals as goal

pub returns : goal.returns
returns c =
    record {
      put_holds_the_page = put_holds_the_page;
      fetch_after_put_gives_the_page = fetch_after_put;
      emptied_holds_nothing = emptied_holds_nothing;
      other_slots_stay = other_slots_stay;
      sizes_stay = sizes_stay;
      refusals_change_nothing = refusals_change_nothing;
    }
