pub mod DrawerCalls
